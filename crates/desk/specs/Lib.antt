pub mod OnDesk
pub mod Stands
pub mod Runs
pub mod Numbers
