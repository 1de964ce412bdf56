pub mod FaultLaws
pub mod Printed
