pub mod LookupLaws
pub mod ByMeaning
