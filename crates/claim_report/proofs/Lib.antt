-- LicensedLaws: what the licence tells of a list is what is printed for it.
pub mod LicensedLaws
