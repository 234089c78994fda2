mod Arguments
mod Levels
mod Parts
mod Steps
mod StmtLevels
mod StmtParts
