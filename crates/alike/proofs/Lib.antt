pub mod AlikeSheets
pub mod OneFewer
