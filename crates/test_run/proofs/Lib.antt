mod Given
mod Taking
mod Told
mod Walked
