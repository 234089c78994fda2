mod Setting
mod Telling
