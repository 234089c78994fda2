pub mod Paying
pub mod Asking
pub mod SuperFound
