pub mod Checked
pub mod Examples
pub mod FileRun
pub mod Judged
pub mod Minimal
pub mod Verdicts
