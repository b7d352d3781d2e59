pub mod IdSteps
