mod Long
mod Places
