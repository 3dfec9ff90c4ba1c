-- A packet that is read and written again changes in ignored flags alone. Assumes nothing.
use Rattle.std.proofs.Common.{◌≡◌, ℕ, ◌+◌, ◌-◌, ◌*◌, ◌<◌, ◌≤◌, true, cond, not, ◌||◌, eqb, List, ◌++◌, length, get_or, take, Ok, sym, ap, ◌∙◌, subst, ⊎_elim, arith, length-append}
use Rattle.std.specs.List.{flat_map}
use Rattle.std.proofs.lemmas.List.{get_or-take, get_or_append_left, length-take-le}
use Rattle.std.proofs.lemmas.Bool.{and_parts, cases_eq, eqb-true, not-false, eq-eqb, ne_eqb, le-ltb, le-leb}
use Rattle.std.proofs.lemmas.Bool.Decides.{nat_tests}
use Rattle.wire.specs.Decoding.{decode, type_at, hack_at, packet_at, bodies_by_type, lengths_by_type, expected_length, hack_counts_agree, counts_agree}
use Rattle.wire.specs.Encoding.{encode, hack_words}
use Rattle.wire.specs.Fields.{field_at, short_at, field_bytes}
use Rattle.wire.specs.Flags.{word_count, canonical_word, canonical_words, Canonical}
use Rattle.wire.specs.Laws.{SameButIgnored, FlagsAsSent}
use Rattle.wire.specs.Ranges.{body_in_range, header_in_range, hack_fields_in_range, low_flag_clear, packet_in_range}
use Rattle.wire.specs.declared.packet.Body.TheVariants.{Heartbeat}
use Rattle.wire.specs.declared.packet.Message.{Message}
use Rattle.wire.proofs.Back.{field_after, word_at, word_below}
use Rattle.wire.proofs.Forth.{taken, writes_back}
use Rattle.wire.proofs.Lengths.{canonical_words_at, flags_kept, length_hack_words, length_joined, words_bound}
use Rattle.wire.proofs.Words.{canonical_twice, canonical_flags}

-- what is known of the bytes of a HACK that is taken
record HackTaken (b : List ℕ) : Type 0 where
  pub long : length b ≡ 38 + 4 * word_count (field_at b 24) (field_at b 28)
  pub fields : hack_fields_in_range (field_at b 16) (field_at b 20) (field_at b 24) (field_at b 28) ≡ true

hack_taken : (b : List ℕ) (p : Message (List ℕ)) → decode b ≡ Ok p → type_at b ≡ 3 → HackTaken b
hack_taken b p h k =
    let t = taken b p h in
    let good = and_parts (counts_agree b) (packet_in_range (packet_at b)) t.good in
    let agree : hack_counts_agree b ≡ true = subst (λ n. (not (eqb n 3) || hack_counts_agree b) ≡ true) k good.0 in
    let body = (and_parts (header_in_range (short_at b 8) (short_at b 10)) (body_in_range (get_or (bodies_by_type b) (type_at b) (Heartbeat 0))) good.1).1 in
    let ranged = subst (λ n. body_in_range (get_or (bodies_by_type b) n (Heartbeat 0)) ≡ true) k body in
    let long : length b ≡ expected_length b = eqb-true (length b) (expected_length b) (not-false _ t.four) in
    let count : short_at b 36 ≡ word_count (field_at b 24) (field_at b 28) = eqb-true (short_at b 36) (word_count (field_at b 24) (field_at b 28)) (and_parts (eqb (field_at b 32) (field_at b 24 - 1)) (eqb (short_at b 36) (word_count (field_at b 24) (field_at b 28))) agree).1 in
    record {
      long = long ∙ ap (λ n. get_or (lengths_by_type b) n 0) k ∙ ap (λ n. 38 + 4 * n) count;
      fields = (and_parts (hack_fields_in_range (field_at b 16) (field_at b 20) (field_at b 24) (field_at b 28)) (low_flag_clear (field_at b 24) (field_at b 28) (get_or (hack_at b).flags 0 0)) ranged).0;
    }

pub same_but_ignored : (b : List ℕ) (p : Message (List ℕ)) → ((i : ℕ) → get_or b i 0 < 256) → decode b ≡ Ok p → SameButIgnored b (encode p)
same_but_ignored b p bytes h = ⊎_elim hack other (cases_eq (type_at b) 3)
  where
    other : (type_at b ≡ 3 → ⊥) → SameButIgnored b (encode p)
    other ne =
        let e : encode p ≡ b = writes_back b p bytes h ∙ ap (λ t. cond t (take 38 b ++ flat_map field_bytes (hack_words (hack_at b))) b) (ne_eqb (type_at b) 3 ne) in
        record { long = ap length e; bytes = λ i _. ap (λ l. get_or l i 0) e; words = λ k. absurd (ne k) }

    hack : type_at b ≡ 3 → SameButIgnored b (encode p)
    hack k =
        let known = hack_taken b p h k in
        let lsn = field_at b 24 in
        let hsn = field_at b 28 in
        let f = λ (i : ℕ). field_at b (38 + 4 * i) in
        let r = hack_at b in
        let ws = flat_map field_bytes (hack_words r) in
        let nine = words_bound (field_at b 16) (field_at b 20) lsn hsn known.fields in
        let front : length (take 38 b) ≡ 38 = length-take-le 38 b (omega (arith, known.long)) in
        let e : encode p ≡ take 38 b ++ ws = writes_back b p bytes h ∙ ap (λ t. cond t (take 38 b ++ ws) b) (eq-eqb (type_at b) 3 k) in
        let word : (i : ℕ) → i < word_count lsn hsn → field_at (encode p) (38 + 4 * i) ≡ canonical_word lsn hsn i (f i) = λ i l.
        ap (λ c. field_at c (38 + 4 * i)) e ∙ ap (λ n. field_at (take 38 b ++ ws) (n + 4 * i)) (sym front) ∙ field_after (take 38 b) ws (4 * i)
        ∙ word_at (hack_words r) (λ j. word_below r j nine) i ∙ get_or-take (word_count lsn hsn) (canonical_words lsn hsn (λ j. get_or r.flags j 0)) i 0 l
        ∙ canonical_words_at lsn hsn (λ j. get_or r.flags j 0) i (omega arith)
        ∙ ap (canonical_word lsn hsn i) (canonical_words_at lsn hsn f i (omega arith)) ∙ canonical_twice lsn hsn i (f i) in
        record {
          long = ap length e ∙ length-append (take 38 b) ws ∙ omega (arith, front, length_joined (hack_words r), length_hack_words r nine, known.long);
          bytes = λ i l. ap (λ c. get_or c i 0) e ∙ get_or_append_left (take 38 b) ws 0 i (omega (arith, front, l k)) ∙ get_or-take 38 b i 0 (l k);
          words = λ _ i l. subst (Canonical lsn hsn i (f i)) (sym (word i l)) (canonical_flags lsn hsn i (f i));
        }

pub flags_as_sent : (b : List ℕ) (p : Message (List ℕ)) → decode b ≡ Ok p → FlagsAsSent b
flags_as_sent b p h k n low high =
    let fields = (hack_taken b p h k).fields in
    let wide : field_at b 28 ≤ field_at b 24 + 255 = grind (arith, nat_tests) in
    let e = flags_kept (field_at b 24) (field_at b 28) (λ i. field_at b (38 + 4 * i)) n wide low high in
    rw (le-ltb n (field_at b 24) low, le-leb n (field_at b 28) high, e)
