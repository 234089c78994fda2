mod Levels
