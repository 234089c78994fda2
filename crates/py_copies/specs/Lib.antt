pub mod Primary
