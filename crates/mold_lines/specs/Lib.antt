pub mod MoldLines
