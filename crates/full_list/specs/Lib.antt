-- Which way candidates are sought; and for internal contracts, in Found, the findings of a model, kind by kind.
pub mod Ways
pub mod Found
