pub mod CallText
