pub mod Laws
mod Returns
