pub mod Examples
pub mod Laws
pub mod Printable
pub mod Spelled
pub mod SuiteText
