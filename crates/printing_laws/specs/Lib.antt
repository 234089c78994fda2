pub mod Examples
pub mod ReadBack
