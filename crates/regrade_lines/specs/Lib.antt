pub mod RegradeLines
