use Rattle.std.proofs.Common.{◌-◌, vec_len}
use Rattle.tm_store.proofs.file_store.read_file.Given as goal

abbrev pub decreases-loop-piece : goal.decreases-loop-piece
decreases-loop-piece g l = l.most - vec_len l.bytes
