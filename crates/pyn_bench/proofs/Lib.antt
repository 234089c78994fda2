pub mod ReportLemmas
