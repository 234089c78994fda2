pub mod ByExample
