-- One record more.
use Rattle.std.proofs.Common.{◌≡◌, ◌<◌, ◌≤◌, ◌^◌, List, [], ◌∷◌, ◌++◌, sym, subst, arith}
use Rattle.std.specs.Prelude.{All, sum_by}
use Rattle.std.proofs.lemmas.List.Elements.{All-nil, All-cons, All-append}
use Rattle.lp_code.specs.Length.{Fits, length_of, AllFit}
use Rattle.lp_code.specs.declared.record.Record.{Record}

pub fit_more : (old new : List Record) (r : Record) → new ≡ old ++ r ∷ [] → All Fits r.code.items → AllFit old → AllFit new
fit_more old new r e f all = subst AllFit (sym e) (All-append (λ (r : Record). All Fits r.code.items) old (r ∷ []) all
    (All-cons (λ (r : Record). All Fits r.code.items) r [] f (All-nil (λ (r : Record). All Fits r.code.items))))

pub short_more : (old new : List Record) (r : Record) → new ≡ old ++ r ∷ [] → sum_by length_of r.code.items ≤ 4294967295 → All
    (λ r. sum_by length_of r.code.items < 2 ^ 32) old → All (λ r. sum_by length_of r.code.items < 2 ^ 32) new
short_more old new r e s all =
    let short : sum_by length_of r.code.items < 2 ^ 32 = omega (arith, s) in
    subst (All (λ (r : Record). sum_by length_of r.code.items < 2 ^ 32)) (sym e) (All-append (λ (r : Record). sum_by length_of r.code.items < 2 ^ 32)
    old (r ∷ []) all (All-cons (λ (r : Record). sum_by length_of r.code.items < 2 ^ 32) r [] short
    (All-nil (λ (r : Record). sum_by length_of r.code.items < 2 ^ 32))))
