use Rattle.std.proofs.Common.{◌≡◌, ℕ, ◌+◌, ◌<◌, ◌≤◌, List, [], ◌∷◌, ◌++◌, length, map, take, get_or, sym, ap, ◌∙◌, arith}
use Rattle.std.proofs.lemmas.List.{take_more, map-append}
use Rattle.std.proofs.lemmas.Grind.{common_steps}
use Rattle.lp_sig.specs.Places.{first_place}
use Rattle.lp_sig.proofs.places.places_of.Goals as goal

one_more : {E B : Type 0} (f : E → B) (xs : List E) (i : ℕ) (x : E) (b : B) → i < length xs → x ≡ get_or xs i x → b ≡ f x → map f (take i xs) ++ b ∷ [] ≡ map f (take (i + 1) xs)
one_more f xs i x b h at is = sym (ap (map f) (take_more xs i x h) ∙ map-append f (take i xs) (get_or xs i x ∷ []) ∙ ap (λ y. map f (take i xs) ++ y ∷ []) (ap f (sym at) ∙ sym is))

so_many : {E B : Type 0} (f : E → B) (xs : List E) (i : ℕ) → i < length xs → i ≡ length (map f (take i xs))
so_many f xs i h = grind (arith, common_steps)

all_of : {E B : Type 0} (f : E → B) (xs : List E) (i : ℕ) → length xs ≤ i → map f (take i xs) ≡ map f xs
all_of f xs i h = grind (arith, common_steps)

pub loop-i-preserved : goal.loop-i-preserved
loop-i-preserved g c = λ name.
    c.in_ok-add.ensures.added (map g.E.Named.name_of (take c.loop-i.i c.args.entries.now)) (so_many g.E.Named.name_of c.args.entries.now c.loop-i.i c.loop-i-test.true) c.loop-i.invariant name ∙
    ap (first_place name) (one_more g.E.Named.name_of c.args.entries.now c.loop-i.i c.index-entries-i.result c.name.result.now c.loop-i-test.true c.index-entries-i.is c.name.ensures)

pub returns : goal.returns
returns g c = λ name. c.loop-i.invariant name ∙ ap (first_place name) (all_of g.E.Named.name_of c.args.entries.now c.loop-i.i c.loop-i-test.false)
