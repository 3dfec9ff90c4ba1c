use Rattle.std.proofs.Common.{is_ok, sym, ap, ◌∙◌, rules}
use Rattle.std.proofs.lemmas.Bool.{cond-true}
use Rattle.store.specs.Pairs.{holds}
use Rattle.store.specs.Operations.{put_answer, put_after}
use Rattle.store.proofs.Keeping.{stored}
use Rattle.store.proofs.Copies.{copied}
use Rattle.queue.proofs.Queue.pass_on.Goals as goal

pub returns-in_err-len : goal.returns-in_err-len
returns-in_err-len g c = search (rules, stored)

pub returns : goal.returns
returns g c =
    let n = c.args.number in
    let from = g.S.Store.meaning c.args.self.now.store in
    let to = g.A.Store.meaning c.args.archive.now in
    let len = c.in_ok-len.len in
    let e = c.in_ok-len.ensures in
    let k = copied from n _ len _ c.copy.new.buffer e.answer e.buffer in
    let same = c.copy.ensures.same in
    record {
      answer = c.put.ensures.answer ∙ ap (put_answer to n) k.front ∙ sym (cond-true (holds n from.pairs) _ _ k.held);
      after = c.put.ensures.after ∙ ap (put_after (is_ok c.put.result) to n) k.front;
      same = cc;
    }
