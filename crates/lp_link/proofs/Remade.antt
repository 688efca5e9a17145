-- Records that are made one after the other.
use Rattle.std.proofs.Common.{◌≡◌, ◌∙◌, ◌+◌, ◌<◌, ℕ, List, [], ◌∷◌, ◌++◌, take, length, ap, refl, sym, subst}
use Rattle.std.specs.Prelude.{get_or}
use Rattle.std.proofs.lemmas.List.{take_more}
use Rattle.lp_lemmas.specs.Each.{EachOf}
use Rattle.lp_term.specs.Mapped.{Map}
use Rattle.lp_code.specs.declared.record.Record.{Record}
use Rattle.lp_link.specs.declared.records.Numbers.{Numbers}
use Rattle.lp_link.specs.inner.Parts.{map_in, AllHaveRoom, BecomesMovedRecord, AddsMoved}
use Rattle.lp_link.specs.Renumbering.{IsMovedRecord, AllRecordsMoved}

each_front : (P : Record → Type 0) (xs : List Record) (x : Record) → EachOf P (xs ++ x ∷ []) → EachOf P xs × P x
each_front P [] x e = (tt, e.0)
each_front P (y ∷ xs) x e = let more = each_front P xs x e.1 in ((e.0, more.0), more.1)

one_more : (m : Map) (n : ℕ) (rs qs : List Record) (r q : Record) → AllRecordsMoved m n rs qs → IsMovedRecord m n r q → AllRecordsMoved m n (rs ++ r ∷ []) (qs ++ q ∷ [])
one_more m n [] [] r q a x = (x, tt)
one_more m n (h ∷ rs) (k ∷ qs) r q a x = (a.0, one_more m n rs qs r q a.1 x)
one_more m n [] (k ∷ qs) r q a x = absurd a
one_more m n (h ∷ rs) [] r q a x = absurd a

appended : (xs ys zs : List Record) → (xs ++ ys) ++ zs ≡ xs ++ (ys ++ zs)
appended [] ys zs = refl
appended (x ∷ xs) ys zs = ap (λ l. x ∷ l) (appended xs ys zs)

no_more : (xs : List Record) → xs ≡ xs ++ []
no_more [] = refl
no_more (x ∷ xs) = ap (λ l. x ∷ l) (no_more xs)

pub none_added : (m : Map) (n : ℕ) (rs old : List Record) → AddsMoved m n (take 0 rs) old old
none_added m n rs old = ([], no_more old, λ e. tt)

pub next_added : (s : Numbers) (rs old now new : List Record) (k : ℕ) (r q : Record) → k < length rs → r ≡ get_or rs k r → BecomesMovedRecord s r q → new ≡ now ++ q ∷ []
    → AddsMoved (map_in s) s.first (take k rs) old now → AddsMoved (map_in s) s.first (take (k + 1) rs) old new
next_added s rs old now new k r q l e x is (own, behind, moved) =
    let more : take (k + 1) rs ≡ take k rs ++ r ∷ [] = take_more rs k r l ∙ ap (λ h. take k rs ++ h ∷ []) (sym e) in (
      own ++ q ∷ [],
      is ∙ ap (λ l. l ++ q ∷ []) behind ∙ appended old own (q ∷ []),
      λ room.
          let both = each_front (λ (r : Record). AllHaveRoom s.first r.code.items) (take k rs) r (subst (EachOf (λ (r : Record). AllHaveRoom s.first r.code.items)) more room) in
          subst (λ l. AllRecordsMoved (map_in s) s.first l (own ++ q ∷ [])) (sym more) (one_more (map_in s) s.first (take k rs) own r q (moved both.0) (x both.1)),
    )
