-- What is known of rows of coefficients.
pub mod Inner
