use Rattle.std.proofs.Common.{◌≡◌, ◌-◌, ◌<◌, false, is_ok, Ok, sym, ap, ◌∙◌, arith, rules}
use Rattle.sender.specs.Senders.{sender_seen, offer_after}
use Rattle.sender.proofs.Offering.{Passed, good_size, offer_written, offer_answered, offer_is, offer_keeps}
use Rattle.sender.proofs.sending.Sender+Q+StillOpen.offer.Goals as goal

pub returns : goal.returns
returns g c =
    let s = sender_seen g.Q.Store.meaning (λ _. false) c.args.self.now in
    let xs = c.args.payload.now in
    let out = c.args.out.now in
    let put = c.put.result in
    let size = c.in_ok-check_write.field-0 in
    let window : s.highest - s.released < 256 = omega (arith, c.saturating_sub.ensures, c.if-saturating_sub-ge-WINDOW.false) in
    let passed : Passed s xs out put size = record {
      long = good_size xs c.if-is_empty.ensures c.if-payload-gt-LONGEST.false;
      window = window;
      last = c.if-self-ge-LAST.false;
      room = c.in_ok-check_write.ensures;
      queue = c.put.ensures.answer;
      done = search rules;
    } in
    let written : c.write.result ≡ Ok size = offer_written s xs out put size passed c.write.result c.write.ensures.answer in
    let queue = g.Q.Store.meaning c.put.new.self in
    let is = offer_is s xs out put size passed queue c.put.ensures.after in
    record {
      answer = written ∙ offer_answered s xs out put size passed;
      after = is ∙ sym (ap (λ r. offer_after (is_ok r) s xs) written);
      buffer = c.write.ensures.buffer;
      keeps = offer_keeps s xs out put size passed queue is;
      in_range = λ sound bad. let e = sym written ∙ bad in absurd (search rules);
    }
