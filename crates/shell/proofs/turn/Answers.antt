-- What is written is what `feed` tells of each piece, and pieces are told one after the other.
use Rattle.std.proofs.Common.{rules, refl, ◌≡◌, ◌∙◌, ◌<◌, false, List, ℕ, length, take, sym, subst, ap, OnOk, Ok, Err}
use Rattle.std.specs.Io.KnownBytes.{Appends}
use Rattle.std.specs.Prelude.{Result, is_err}
use Rattle.shell.proofs.Using.{used-more, used-part, used-stands, used-start}
use Rattle.shell.proofs.turn.Goals as goal

where_ok : {T E : Type 0} (r : Result T E) (P : Type 0) → is_err r ≡ false → OnOk r P → P
where_ok (Ok x) P e h = h
where_ok (Err x) P e h = cc

pub loop-rest-init : goal.loop-rest-init
loop-rest-init g c = (refl, used-start g.T.Transcript.told g.met.T.Transcript.nothing c.args.start c.args.chunk.now _)

pub returns-then-is_err-clause-unwritten : goal.returns-then-is_err-clause-unwritten
returns-then-is_err-clause-unwritten g c =
    let at = c.loop-rest in
    let some : 0 < length at.rest.now = search rules in
    search (rules, used-part c.args.chunk.now at.rest.now at.invariant.1 some)

pub loop-rest-preserved : goal.loop-rest-preserved
loop-rest-preserved g c =
    let at = c.loop-rest in
    let e = c.feed-fed.ensures in
    let contents = g.W.Write.contents in
    let told : take c.feed-fed.result.wrote c.bytes.result.now ≡ g.T.Transcript.told _ _ = ap (take c.feed-fed.result.wrote) c.bytes.ensures ∙ e.text in
    let writes = where_ok c.write.result _ (sym c.if-is_err.ensures.value) c.write.ensures.written in (
      search rules,
      used-more g.T.Transcript.told g.met.T.Transcript.joins c.args.chunk.now at.rest.now c.feed-fed.result.used _ _ at.invariant.1 e.session
          (subst (λ (l : List ℕ). Appends (contents at.output) (contents c.write.new.output) l) told writes),
    )

pub returns-clause-used : goal.returns-clause-used
returns-clause-used g c =
    let at = c.loop-rest in
    used-stands c.args.chunk.now at.rest.now at.invariant.1 (search rules)
