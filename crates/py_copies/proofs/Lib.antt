pub mod KindRules
