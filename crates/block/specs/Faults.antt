-- The refusals of the reader and of the writers, and their places.
use Rattle.block.specs.declared.faults.BlockFault.{BlockFault}
use Rattle.block.specs.declared.faults.BlockFault.TheVariants as block
use Rattle.block.specs.declared.faults.WriteFault.{WriteFault}
use Rattle.block.specs.declared.faults.WriteFault.TheVariants as write
use Rattle.station.specs.Faults.{Placed, placed}
use Rattle.station.specs.declared.refusals.Refusal.TheVariants.{BlockLength, BlockCheck, Layout, ShortMemory}

abbrev pub block_fault : BlockFault → Placed
block_fault (block.Length size) = placed BlockLength size
block_fault block.Check = placed BlockCheck 508
block_fault (block.Layout place) = placed Layout place

abbrev pub write_fault : WriteFault → Placed
write_fault (write.Memory size) = placed ShortMemory size
write_fault write.Items = placed Layout 1
write_fault write.Text = placed Layout 2
