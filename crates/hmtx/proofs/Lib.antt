-- What the code reads against the model's metrics; the count as a forward pass finds it; the bytes record by record.
pub mod Places
pub mod Count
pub mod Written
pub mod Step
