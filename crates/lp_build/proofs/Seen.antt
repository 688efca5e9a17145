-- A name that stands among the kinds or constants of a module's signature is found there, under the number of its place: it is none of the standard ones.
use Rattle.std.proofs.Common.{◌≡◌, ◌∙◌, ◌∷◌, [], ◌+◌, ℕ, suc, Bool, true, false, if◌then◌else◌, List, Option, None, Some, map, ap, refl, sym, subst, arith}
use Rattle.std.specs.Prelude.{cond, option_map}
use Rattle.std.specs.Str.{bytes_eq}
use Rattle.lp_lemmas.proofs.Booleans.{bytes_eq_true, or_false_left, or_false_right}
use Rattle.lp_lemmas.proofs.Lists.{map_composed}
use Rattle.lp_lemmas.proofs.Options.{one_value, option_map_some}
use Rattle.lp_places.specs.Places as places
use Rattle.lp_sig.specs.Modules.{HasSeen, constant_names, first_names, numbered_names, said_in_module}
use Rattle.lp_sig.specs.Rows.{Row, found, kind_row, number_row}
use Rattle.lp_sig.specs.Said.{Said, a_kind, an_abbreviation, declared_names, is_among, kinds_among, names_in, numbered}
use Rattle.lp_sig.specs.Standard.{standard_kinds, standard_constants}
use Rattle.lp_sig.proofs.Apart.{AreNew, firsts_new}
use Rattle.lp_sig.proofs.Finding.{behind}
use Rattle.lp_syntax.specs.declared.text.Sentence.{Sentence}
use Rattle.lp_sig.specs.declared.signature.Signature.{Signature}
use Rattle.lp_module.specs.declared.module.Module.{Module}
use Rattle.lp_build.proofs.SameCopies.{IsKindSeen, IsConstantSeen}

-- a name that is not among those of rows is not found there
not_found : {A : Type 0} (w : List ℕ) (rows : List (Row A)) → is_among w (names_in rows) ≡ false → found w rows ≡ None
not_found w [] e = refl
not_found w (r ∷ rs) e =
    ap (λ b. cond b (Some r.1) (found w rs)) (or_false_left (bytes_eq w r.0) (is_among w (names_in rs)) e)
    ∙ not_found w rs (or_false_right (bytes_eq w r.0) (is_among w (names_in rs)) e)

-- a name behind known ones
abbrev placed_at : List ℕ → (n : List ℕ) → (ns : List (List ℕ)) → Option ℕ
placed_at w n ns = if bytes_eq w n then Some 0 else option_map (λ i. suc i) (places.first_place w ns)

new_kind : (w : List ℕ) (known : List (List ℕ)) (rows : List (Row Said)) (p : ℕ) → AreNew known rows → places.first_place w (names_in (kinds_among rows)) ≡ Some p → is_among w known ≡ false
new_kind w known [] p n e = absurd (cc)
new_kind w known ((m, a_kind c) ∷ rs) p n e = by (bytes_eq w m) refl (λ q. new_kind w (m ∷ known) rs q n.1) e
  where
    by : (b : Bool) → bytes_eq w m ≡ b → ((q : ℕ) → places.first_place w (names_in (kinds_among rs)) ≡ Some q → is_among w (m ∷ known) ≡ false)
        → (if b then Some 0 else option_map (λ i. suc i) (places.first_place w (names_in (kinds_among rs)))) ≡ Some p → is_among w known ≡ false
    by true t go h = subst (λ x. is_among x known ≡ false) (sym (bytes_eq_true w m t)) n.0
    by false t go h = let (q, at, is) = option_map_some (places.first_place w (names_in (kinds_among rs))) (λ i. suc i) p h in or_false_right (bytes_eq w m) (is_among w known) (go q at)
new_kind w known ((m, an_abbreviation c) ∷ rs) p n e = or_false_right (bytes_eq w m) (is_among w known) (new_kind w (m ∷ known) rs p n.1 e)

new_name : (w : List ℕ) (known ns : List (List ℕ)) (p : ℕ) → places.first_place w (first_names known ns) ≡ Some p → is_among w known ≡ false
new_name w known [] p e = absurd (cc)
new_name w known (n ∷ ns) p e = by (is_among n known) refl (new_name w known ns p) (λ q. new_name w (n ∷ known) ns q) e
  where
    at_first : (b : Bool) → bytes_eq w n ≡ b → is_among n known ≡ false → ((q : ℕ) → places.first_place w (first_names (n ∷ known) ns) ≡ Some q → is_among w (n ∷ known) ≡ false)
        → (if b then Some 0 else option_map (λ i. suc i) (places.first_place w (first_names (n ∷ known) ns))) ≡ Some p → is_among w known ≡ false
    at_first true t f go h = subst (λ x. is_among x known ≡ false) (sym (bytes_eq_true w n t)) f
    at_first false t f go h = let (q, at, is) = option_map_some (places.first_place w (first_names (n ∷ known) ns)) (λ i. suc i) p h in or_false_right (bytes_eq w n) (is_among w known) (go q at)

    by : (b : Bool) → is_among n known ≡ b → (places.first_place w (first_names known ns) ≡ Some p → is_among w known ≡ false)
        → ((q : ℕ) → places.first_place w (first_names (n ∷ known) ns) ≡ Some q → is_among w (n ∷ known) ≡ false)
        → places.first_place w (if b then first_names known ns else n ∷ first_names (n ∷ known) ns) ≡ Some p → is_among w known ≡ false
    by true t skip go h = skip h
    by false t skip go h = at_first (bytes_eq w n) refl t go h

-- rows with numbers
numbered_at : (w : List ℕ) (k : ℕ) (rows : List (Row ℕ)) (p : ℕ) → places.first_place w (names_in rows) ≡ Some p → option_map (λ r. r.0) (found w (numbered k rows)) ≡ Some (k + p)
numbered_at w k [] p e = absurd (cc)
numbered_at w k (r ∷ rs) p e = by (bytes_eq w r.0) (numbered_at w (suc k) rs) e
  where
    by : (b : Bool) → ((q : ℕ) → places.first_place w (names_in rs) ≡ Some q → option_map (λ r. r.0) (found w (numbered (suc k) rs)) ≡ Some (suc k + q))
        → (if b then Some 0 else option_map (λ i. suc i) (places.first_place w (names_in rs))) ≡ Some p
        → option_map (λ (x : ℕ × ℕ). x.0) (cond b (Some (k, r.1)) (found w (numbered (suc k) rs))) ≡ Some (k + p)
    by true go h = let z = one_value (Some 0) 0 p refl h in let f : k ≡ k + p = omega (arith, z) in ap (λ x. Some x) f
    by false go h =
        let (q, at, is) = option_map_some (places.first_place w (names_in rs)) (λ i. suc i) p h in
        let f : suc k + q ≡ k + p = omega (arith, is) in
        go q at ∙ ap (λ x. Some x) f

numbered_name_at : (w : List ℕ) (k : ℕ) (ns : List (List ℕ)) (p : ℕ) → places.first_place w ns ≡ Some p → found w (numbered_names k ns) ≡ Some (k + p)
numbered_name_at w k [] p e = absurd (cc)
numbered_name_at w k (n ∷ ns) p e = by (bytes_eq w n) (numbered_name_at w (suc k) ns) e
  where
    by : (b : Bool) → ((q : ℕ) → places.first_place w ns ≡ Some q → found w (numbered_names (suc k) ns) ≡ Some (suc k + q))
        → (if b then Some 0 else option_map (λ i. suc i) (places.first_place w ns)) ≡ Some p → cond b (Some k) (found w (numbered_names (suc k) ns)) ≡ Some (k + p)
    by true go h = let z = one_value (Some 0) 0 p refl h in let f : k ≡ k + p = omega (arith, z) in ap (λ x. Some x) f
    by false go h =
        let (q, at, is) = option_map_some (places.first_place w ns) (λ i. suc i) p h in
        let f : suc k + q ≡ k + p = omega (arith, is) in
        go q at ∙ ap (λ x. Some x) f

numbered_names_in : (k : ℕ) (rows : List (Row ℕ)) → names_in (numbered k rows) ≡ names_in rows
numbered_names_in k [] = refl
numbered_names_in k (r ∷ rs) = ap (λ l. r.0 ∷ l) (numbered_names_in (suc k) rs)

names_numbered : (k : ℕ) (ns : List (List ℕ)) → names_in (numbered_names k ns) ≡ ns
names_numbered k [] = refl
names_numbered k (n ∷ ns) = ap (λ l. n ∷ l) (names_numbered (suc k) ns)

module _ (own : Signature) (used : List Signature) (text : List ℕ) (lines : List Sentence) (a : Module) (seen : HasSeen own used text lines a.signature) where
  pub kind_seen : (w : List ℕ) (p : ℕ) → places.first_place w (map (λ e. e.name.items) a.signature.kinds.items) ≡ Some p → IsKindSeen a w
  kind_seen w p at =
      let rows = kinds_among (declared_names (said_in_module own used text lines)) in
      let names : map (λ e. e.name.items) a.signature.kinds.items ≡ names_in rows =
      sym (map_composed kind_row (λ r. r.0) (λ e. e.name.items) (λ e. refl) a.signature.kinds.items) ∙ ap names_in seen.kinds ∙ numbered_names_in 8 rows in
      let here : places.first_place w (names_in rows) ≡ Some p = ap (places.first_place w) (sym names) ∙ at in
      let fresh = new_kind w (names_in standard_kinds) (declared_names (said_in_module own used text lines)) p (firsts_new (names_in standard_kinds) (said_in_module own used text lines)) here in (
        p,
        at,
        ap (option_map (λ r. r.0)) (behind w standard_kinds (map kind_row a.signature.kinds.items) (not_found w standard_kinds fresh) ∙ ap (found w) seen.kinds) ∙ numbered_at w 8 rows p here,
      )

  pub constant_seen : (w : List ℕ) (p : ℕ) → places.first_place w (map (λ e. e.name.items) a.signature.constants.items) ≡ Some p → IsConstantSeen a w
  constant_seen w p at =
      let ns = first_names (names_in standard_constants) (constant_names own used text lines) in
      let names : map (λ e. e.name.items) a.signature.constants.items ≡ ns =
      sym (map_composed number_row (λ r. r.0) (λ e. e.name.items) (λ e. refl) a.signature.constants.items) ∙ ap names_in seen.constants ∙ names_numbered 32 ns in
      let here : places.first_place w ns ≡ Some p = ap (places.first_place w) (sym names) ∙ at in
      let fresh = new_name w (names_in standard_constants) (constant_names own used text lines) p here in (
        p,
        at,
        behind w standard_constants (map number_row a.signature.constants.items) (not_found w standard_constants fresh) ∙ ap (found w) seen.constants ∙ numbered_name_at w 32 ns p here,
      )
