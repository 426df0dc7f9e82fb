pub mod HandedBack
pub mod LookupAnswers
pub mod LookupReading
pub mod LookupSheets
pub mod LookupInstances
pub mod LookupDemands
