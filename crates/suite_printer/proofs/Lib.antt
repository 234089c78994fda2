mod BodyRows
mod Pages
mod Tests
