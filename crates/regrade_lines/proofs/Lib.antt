pub mod FewUnits
