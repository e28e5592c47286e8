mod CollidingPairs
mod Blocks
mod TreeChunks
mod Walks
mod Audits
mod First
mod Comparing
mod ParentAudits
