pub mod Cubes
pub mod Found
pub mod Primes
