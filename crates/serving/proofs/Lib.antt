-- Laws of reads and writes in turn.
pub mod Running
