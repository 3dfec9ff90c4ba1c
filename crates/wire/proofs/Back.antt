-- What is written reads back. Assumes nothing.
use Rattle.std.proofs.Common.{◌≡◌, ℕ, zero, suc, ◌+◌, ◌-◌, ◌*◌, ◌/◌, ◌%◌, ◌^◌, ◌<◌, ◌≤◌, true, false, cond, not, ◌&&◌, ◌||◌, eqb, ltb, ◌⊎◌, List, [], ◌∷◌, ◌++◌, length, get_or, Ok, Err, sym, refl, ap, ◌∙◌, subst, inl, inr, ⊎_elim, add_assoc, mod-eq_of_lt, arith}
use Rattle.std.proofs.lemmas.Nat.{shr-shr, div_below, div-add-mod'}
use Rattle.std.proofs.lemmas.List.FromFn.{fill_by_all}
use Rattle.std.specs.List.{flat_map}
use Rattle.std.proofs.lemmas.List.{get_or-append-add, get_or-take, get_or_past, ext_get_or}
use Rattle.std.proofs.lemmas.Bool.{and_parts, and_from, cases_lt, eq-eqb, le-ltb, lt-ltb, cond-true}
use Rattle.std.proofs.lemmas.Bool.Decides.{nat_tests}
use Rattle.wire.specs.Fields.{short_at, field_at, short_bytes, field_bytes}
use Rattle.wire.specs.Flags.{word_count, canonical_word, canonical_words, positions_in}
use Rattle.wire.specs.Ranges.{hack_fields_in_range, hack_in_range, low_flag_clear, header_in_range, body_in_range, packet_in_range}
use Rattle.wire.specs.Encoding.{hack_words, body_length, header_bytes, encode, six_bytes}
use Rattle.wire.specs.Decoding.{expected_length, counts_agree, header_wrong, type_wrong, body_at, packet_at, decode}
use Rattle.wire.specs.Laws.{BodyFits, canonical_body, canonical_packet, HeaderFits}
use Rattle.wire.specs.declared.packet.Hack.{Hack}
use Rattle.wire.specs.declared.packet.Body.{Body}
use Rattle.wire.specs.declared.packet.Body.TheVariants.{Data, Retransmission, Hack as HackOf, JoinStream, JoinAck, JoinConfirm, LeaveStream, Heartbeat, NullData, Eject, Eos, HeartbeatResponse, LeaveConfirm}
use Rattle.wire.specs.declared.packet.Message.{Message}
use Rattle.answer.specs.declared.Refusal.TheVariants.{ShortPacket, BadHeader, UnknownType, LengthMismatch, OutOfRange}
use Rattle.wire.proofs.Chosen.{past}
use Rattle.wire.proofs.Lengths.{length_encode, length_canonical_words, length_hack_words, canonical_words_at, words_bound}
use Rattle.wire.proofs.Words.{canonical_twice, canonical_below, trimmed_same, trimmed_inside, positions_in_32}

-- a number from its bytes
pub short_back : (n : ℕ) → n < 2 ^ 16 → n / 256 % 256 * 256 + n % 256 ≡ n
short_back n h = omega arith

pub field_back : (n : ℕ) → n < 2 ^ 32 → n / 16777216 % 256 * 16777216 + n / 65536 % 256 * 65536 + n / 256 % 256 * 256 + n % 256 ≡ n
field_back n h =
    let top : n / 16777216 < 256 = div_below n 16777216 256 (omega arith) (omega arith) in
    let low : n / 16777216 % 256 ≡ n / 16777216 = mod-eq_of_lt top in
    whole (n / 256) (n / 65536) (n / 16777216) (n / 65536 % 256) (n / 256 % 256) (n % 256) (sym (div-add-mod' n 256))
    (sym (div-add-mod' (n / 256) 256) ∙ ap (λ m. m * 256 + n / 256 % 256) (shr-shr n 8 8))
    (sym (div-add-mod' (n / 65536) 256) ∙ ap (λ m. m * 256 + n / 65536 % 256) (shr-shr n 16 8))
    low
  where
    whole : (m k l a b c : ℕ) → n ≡ m * 256 + c → m ≡ k * 256 + b → k ≡ l * 256 + a → n / 16777216 % 256 ≡ l → n / 16777216 % 256 * 16777216 + a * 65536 + b * 256 + c ≡ n
    whole m k l a b c e f g t = omega arith

pub field_after : (xs ys : List ℕ) (j : ℕ) → field_at (xs ++ ys) (length xs + j) ≡ field_at ys j
unfolding field_at
field_after xs ys j =
    let at : (k : ℕ) → get_or (xs ++ ys) (length xs + j + k) 0 ≡ get_or ys (j + k) 0 = λ k. ap (λ n. get_or (xs ++ ys) n 0) (add_assoc (length xs) j k) ∙ get_or-append-add xs ys (j + k) 0 in
    rw (get_or-append-add xs ys j 0, at 1, at 2, at 3)

-- a word from the bytes of many
pub word_at : (ws : List ℕ) → ((k : ℕ) → get_or ws k 0 < 2 ^ 32) → (i : ℕ) → field_at (flat_map field_bytes ws) (4 * i) ≡ get_or ws i 0
unfolding field_at field_bytes
word_at [] h i = refl
word_at (w ∷ ws) h zero = field_back w (h 0)
word_at (w ∷ ws) h (suc i) =
    let on : 4 * suc i ≡ 4 + 4 * i = omega arith in
    ap (field_at (flat_map field_bytes (w ∷ ws))) on ∙ field_after (field_bytes w) (flat_map field_bytes ws) (4 * i) ∙ word_at ws (λ k. h (suc k)) i

six_is : (t : List ℕ) → length t ≡ 6 → six_bytes t 0 ≡ t
six_is t h = sym (fill_by_all (λ i. get_or t i 0) t 6 0 h (λ k _. refl))

-- the flags of a HACK
module _ (h : Hack) (v : hack_fields_in_range h.term h.serial h.lsn h.hsn ≡ true) where
  -- past the last word no position is kept
  past_words : (i w : ℕ) → word_count h.lsn h.hsn ≤ i → canonical_word h.lsn h.hsn i 0 ≡ canonical_word h.lsn h.hsn i w
  unfolding canonical_word positions_in word_count
  past_words i w n = trimmed_same _ _ 0 w (positions_in_32 (h.lsn % 32) i) (positions_in_32 (h.lsn % 32 + (h.hsn + 1 - h.lsn)) i) (λ j _ a s. absurd (none j a s (cases_lt h.hsn h.lsn)))
    where
      none : (j : ℕ) → positions_in (h.lsn % 32) i ≤ j → j < positions_in (h.lsn % 32 + (h.hsn + 1 - h.lsn)) i → (h.hsn < h.lsn) ⊎ (h.lsn ≤ h.hsn) → ⊥
      none j a s (inl c) = let e : h.lsn ≤ h.hsn + 1 = grind (arith, nat_tests) in omega arith
      none j a s (inr c) = let e : (h.lsn % 32 + (h.hsn - h.lsn)) / 32 + 1 ≤ i = subst (λ t. cond t 0 ((h.lsn % 32 + (h.hsn - h.lsn)) / 32 + 1) ≤ i) (le-ltb h.hsn h.lsn c) n in omega arith

  again_canonical : (i : ℕ) → i < 9 → canonical_word h.lsn h.hsn i (get_or (hack_words h) i 0) ≡ canonical_word h.lsn h.hsn i (get_or h.flags i 0)
  again_canonical i l = ⊎_elim
      (λ k. ap (canonical_word h.lsn h.hsn i) (get_or-take (word_count h.lsn h.hsn) _ i 0 k ∙ canonical_words_at h.lsn h.hsn (λ k. get_or h.flags k 0) i l) ∙ canonical_twice h.lsn h.hsn i _)
      (λ k. ap (canonical_word h.lsn h.hsn i) (get_or_past (hack_words h) i 0 (omega (arith, length_hack_words h (words_bound h.term h.serial h.lsn h.hsn v)))) ∙ past_words i _ k)
      (cases_lt i (word_count h.lsn h.hsn))

pub canonical_words_same : (lsn hsn : ℕ) (f g : ℕ → ℕ) → ((i : ℕ) → i < 9 → canonical_word lsn hsn i (f i) ≡ canonical_word lsn hsn i (g i)) → canonical_words lsn hsn f ≡ canonical_words lsn hsn g
canonical_words_same lsn hsn f g same =
    ext_get_or 0 (canonical_words lsn hsn f) (canonical_words lsn hsn g) (length_canonical_words lsn hsn f ∙ sym (length_canonical_words lsn hsn g))
    (λ i l. let nine : i < 9 = omega (arith, length_canonical_words lsn hsn f) in canonical_words_at lsn hsn f i nine ∙ same i nine ∙ sym (canonical_words_at lsn hsn g i nine))

pub word_below : (h : Hack) (k : ℕ) → word_count h.lsn h.hsn ≤ 9 → get_or (hack_words h) k 0 < 2 ^ 32
word_below h k n = ⊎_elim
    (λ l. rw (get_or-take (word_count h.lsn h.hsn) (canonical_words h.lsn h.hsn (λ i. get_or h.flags i 0)) k 0 l, canonical_words_at h.lsn h.hsn (λ i. get_or h.flags i 0) k (omega arith)) (canonical_below h.lsn h.hsn k (get_or h.flags k 0)))
    (λ l. let e : get_or (hack_words h) k 0 ≡ 0 = get_or_past (hack_words h) k 0 (omega (arith, length_hack_words h n)) in omega arith)
    (cases_lt k (word_count h.lsn h.hsn))

-- the flag of LSN is never cleaned away
low_kept : (lsn hsn w : ℕ) → low_flag_clear lsn hsn (canonical_word lsn hsn 0 w) ≡ low_flag_clear lsn hsn w
unfolding canonical_word positions_in
low_kept lsn hsn w = ⊎_elim
    (λ l. rw (lt-ltb hsn lsn l))
    (λ l. let low : lsn % 32 < 32 = omega arith in
    ap (λ n. ltb hsn lsn || eqb n 0) (trimmed_inside _ _ w (lsn % 32) (positions_in_32 (lsn % 32) 0) (positions_in_32 (lsn % 32 + (hsn + 1 - lsn)) 0) low (omega arith) (omega arith)))
    (cases_lt hsn lsn)

abbrev made : List ℕ → ℕ → ℕ → ℕ → Body (List ℕ) → Message (List ℕ)
made t s f o x = record { tree = record { 0 = t }; stream = s; writer = f; addressee = o; body = x }

-- what reading finds in the bytes of a packet
record Found (b : List ℕ) (x : Body (List ℕ)) : Type 0 where
  pub typed : type_wrong b ≡ false
  pub long : expected_length b ≡ 16 + body_length x
  pub agreed : counts_agree b ≡ true
  pub held : body_at b ≡ canonical_body x
  pub ranged : body_in_range (canonical_body x) ≡ true

module _ (t : List ℕ) (s f o : ℕ) where
  found_data : (n : ℕ) (p : List ℕ) → n < 2 ^ 32 → body_in_range (Data n p) ≡ true → Found (encode (made t s f o (Data n p))) (Data n p)
  unfolding short_bytes field_bytes short_at field_at
  found_data n p h v = record { typed = refl; long = let l : length p ≤ 512 = grind (arith, nat_tests) in omega (arith, short_back (length p) (omega arith)); agreed = refl; held = ap (λ m. Data m p) (field_back n h); ranged = v }

  found_again : (n : ℕ) (p : List ℕ) → n < 2 ^ 32 → body_in_range (Retransmission n p) ≡ true → Found (encode (made t s f o (Retransmission n p))) (Retransmission n p)
  unfolding short_bytes field_bytes short_at field_at
  found_again n p h v = record { typed = refl; long = let l : length p ≤ 512 = grind (arith, nat_tests) in omega (arith, short_back (length p) (omega arith)); agreed = refl; held = ap (λ m. Retransmission m p) (field_back n h); ranged = v }

  found_hack : (h : Hack) → BodyFits (HackOf h) → hack_in_range h ≡ true → Found (encode (made t s f o (HackOf h))) (HackOf h)
  unfolding short_bytes field_bytes short_at field_at
  found_hack h typed v =
      let ok = and_parts (hack_fields_in_range h.term h.serial h.lsn h.hsn) (low_flag_clear h.lsn h.hsn (get_or h.flags 0 0)) v in
      let bound = words_bound h.term h.serial h.lsn h.hsn ok.0 in
      let b = encode (made t s f o (HackOf h)) in
      let pre = header_bytes (made t s f o (HackOf h)) ++ (field_bytes h.term ++ (field_bytes h.serial ++ (field_bytes h.lsn ++ (field_bytes h.hsn ++ (field_bytes (h.lsn - 1) ++ short_bytes (word_count h.lsn h.hsn)))))) in
      let e₁₆ : field_at b 16 ≡ h.term = field_back h.term typed.0 in
      let e₂₀ : field_at b 20 ≡ h.serial = field_back h.serial typed.1 in
      let e₂₄ : field_at b 24 ≡ h.lsn = field_back h.lsn typed.2 in
      let e₂₈ : field_at b 28 ≡ h.hsn = field_back h.hsn typed.3 in
      let e₃₂ : field_at b 32 ≡ h.lsn - 1 = field_back (h.lsn - 1) (omega (arith, typed.2)) in
      let e₃₆ : short_at b 36 ≡ word_count h.lsn h.hsn = short_back (word_count h.lsn h.hsn) (omega arith) in
      let each : (i : ℕ) → field_at b (38 + 4 * i) ≡ get_or (hack_words h) i 0 = λ i. field_after pre (flat_map field_bytes (hack_words h)) (4 * i) ∙ word_at (hack_words h) (λ k. word_below h k bound) i in
      let flags : canonical_words (field_at b 24) (field_at b 28) (λ i. field_at b (38 + 4 * i)) ≡ canonical_words h.lsn h.hsn (λ i. get_or h.flags i 0) =
      (λ j. canonical_words (e₂₄ j) (e₂₈ j) (λ i. field_at b (38 + 4 * i)))
      ∙ canonical_words_same h.lsn h.hsn (λ i. field_at b (38 + 4 * i)) (λ i. get_or h.flags i 0) (λ i l. ap (canonical_word h.lsn h.hsn i) (each i) ∙ again_canonical h ok.0 i l) in
      record {
        typed = refl;
        long = omega (arith, e₃₆);
        agreed = and_from _ _ (eq-eqb (field_at b 32) (field_at b 24 - 1) (e₃₂ ∙ sym (ap (λ n. n - 1) e₂₄))) (eq-eqb (short_at b 36) (word_count (field_at b 24) (field_at b 28)) (e₃₆ ∙ sym (λ j. word_count (e₂₄ j) (e₂₈ j))));
        held = λ j. HackOf (record { term = e₁₆ j; serial = e₂₀ j; lsn = e₂₄ j; hsn = e₂₈ j; flags = flags j });
        ranged = and_from _ _ ok.0 (ap (low_flag_clear h.lsn h.hsn) (canonical_words_at h.lsn h.hsn (λ i. get_or h.flags i 0) 0 (omega arith)) ∙ low_kept h.lsn h.hsn (get_or h.flags 0 0) ∙ ok.1);
      }

  found : (x : Body (List ℕ)) → BodyFits x → body_in_range x ≡ true → Found (encode (made t s f o x)) x
  unfolding short_bytes field_bytes short_at field_at
  found (Data n p) h v = found_data n p h v
  found (Retransmission n p) h v = found_again n p h v
  found (HackOf r) h v = found_hack r h v
  found (JoinStream n) h v = record { typed = refl; long = refl; agreed = refl; held = ap JoinStream (field_back n h); ranged = v }
  found (JoinAck n) h v = record { typed = refl; long = refl; agreed = refl; held = ap JoinAck (field_back n h); ranged = v }
  found (JoinConfirm n m l) h v = record { typed = refl; long = refl; agreed = refl; held = λ i. JoinConfirm (field_back n h.0 i) (field_back m h.1 i) (short_back l h.2 i); ranged = v }
  found (LeaveStream n) h v = record { typed = refl; long = refl; agreed = refl; held = ap LeaveStream (field_back n h); ranged = v }
  found (Heartbeat n) h v = record { typed = refl; long = refl; agreed = refl; held = ap Heartbeat (field_back n h); ranged = v }
  found (NullData n) h v = record { typed = refl; long = refl; agreed = refl; held = ap NullData (field_back n h); ranged = v }
  found (Eject n) h v = record { typed = refl; long = refl; agreed = refl; held = ap Eject (field_back n h); ranged = v }
  found (Eos n) h v = record { typed = refl; long = refl; agreed = refl; held = ap Eos (field_back n h); ranged = v }
  found (HeartbeatResponse n m) h v = record { typed = refl; long = refl; agreed = refl; held = λ i. HeartbeatResponse (field_back n h.0 i) (field_back m h.1 i); ranged = v }
  found (LeaveConfirm n) h v = record { typed = refl; long = refl; agreed = refl; held = ap LeaveConfirm (field_back n h); ranged = v }

pub reads_back : (p : Message (List ℕ)) → HeaderFits p → BodyFits p.body → packet_in_range p ≡ true → decode (encode p) ≡ Ok (canonical_packet p)
unfolding short_bytes short_at
reads_back p typed body v =
    let b = encode p in
    let ok = and_parts (header_in_range p.stream p.writer) (body_in_range p.body) v in
    let all = found p.tree.0 p.stream p.writer p.addressee p.body body ok.1 in
    let long : length b ≡ 16 + body_length p.body = length_encode p ok.1 in
    let same : packet_at b ≡ canonical_packet p = λ i. record { tree = record { 0 = six_is p.tree.0 typed.tree i }; stream = short_back p.stream typed.stream i; writer = short_back p.writer typed.writer i; addressee = short_back p.addressee typed.addressee i; body = all.held i } in
    let good : (counts_agree b && packet_in_range (packet_at b)) ≡ true = and_from _ _ all.agreed (ap packet_in_range same ∙ and_from _ _ ok.0 all.ranged) in
    past (ltb (length b) 16) (header_wrong b) (type_wrong b) (not (eqb (length b) (expected_length b))) (Err ShortPacket) (Err BadHeader) (Err UnknownType) (Err LengthMismatch) (cond (counts_agree b && packet_in_range (packet_at b)) (Ok (packet_at b)) (Err OutOfRange))
    (le-ltb (length b) 16 (omega arith)) refl all.typed (ap not (eq-eqb (length b) (expected_length b) (long ∙ sym all.long)))
    ∙ cond-true (counts_agree b && packet_in_range (packet_at b)) (Ok (packet_at b)) (Err OutOfRange) good ∙ ap Ok same
