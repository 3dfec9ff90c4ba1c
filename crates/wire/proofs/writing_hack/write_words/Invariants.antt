use Rattle.std.proofs.Common.{◌≡◌, get_or, take}
use Rattle.std.specs.List.{flat_map}
use Rattle.wire.specs.Fields.{field_bytes, overwrite}
use Rattle.wire.specs.Flags.{canonical_words}
use Rattle.wire.proofs.writing_hack.write_words.Given as goal

abbrev pub invariant-loop-i : goal.invariant-loop-i
invariant-loop-i l = l.out ≡ overwrite 0 (flat_map field_bytes (take l.i (canonical_words l.span.lsn l.span.hsn (λ k. get_or l.fn.flags k 0)))) l.initial.out
