-- The numbers that are to be sent again. Assumes nothing.
use Rattle.std.specs.Prelude.{ℕ, ◌+◌, ◌-◌, ◌/◌, ◌%◌, Bool, ◌&&◌, map, replicate, ◌==◌, nat_le, slice_index}
use Rattle.std.specs.List.{range_with_len}
use Rattle.wire.specs.Flags.{flag_at, is_missing, word_from}
use Rattle.wire.specs.declared.packet.Hack.{Hack}
use Rattle.sender.specs.declared.wanted.Wanted.{Wanted}

-- whether number n is wanted: its flag stands in the word of its block, and a word past the last counts as 0
abbrev pub wants : Wanted → ℕ → Bool
wants w n = nat_le w.first (n / 32) && flag_at (slice_index w.words (n / 32 - w.first)) (n % 32) == 1

abbrev pub none_wanted : Wanted
none_wanted = record { first = 0; words = replicate 9 0 }

-- what a HACK says is missing, in nine words from the word of LSN on
unfoldable pub missing_of : Hack → Wanted
missing_of h = record { first = h.lsn / 32; words = map (λ i. word_from (is_missing h) (h.lsn / 32 + i)) (range_with_len 0 9) }
