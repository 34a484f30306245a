pub mod CommandLemmas
pub mod Lacking
pub mod Numbers
pub mod PairsGiven
pub mod Table
