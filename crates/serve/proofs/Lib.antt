pub mod VehicleLaws
pub mod ServeLaws
