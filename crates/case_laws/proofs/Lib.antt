mod Again
mod Alone
mod Files
mod Gains
mod Passing
