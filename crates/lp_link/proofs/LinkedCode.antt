-- What records denote that are put together copy by copy.
use Rattle.std.proofs.Common.{◌≡◌, ◌∙◌, ◌+◌, ◌<◌, ◌≤◌, ℕ, suc, List, [], ◌∷◌, ◌++◌, length, Some, ap, refl, sym, arith, subst}
use Rattle.lp_lemmas.specs.Each.{EachOf}
use Rattle.lp_lemmas.proofs.Each.{each_append, each_map}
use Rattle.lp_term.specs.Mapped.{Map}
use Rattle.lp_model.specs.Flat.{Clause}
use Rattle.lp_code.specs.declared.record.Record.{Record}
use Rattle.lp_code.specs.Symbolic.{Tables}
use Rattle.lp_code.specs.Rules.{names_in}
use Rattle.lp_code.specs.Denote.{denote_from, denote}
use Rattle.lp_code.specs.Naming.{object_tables}
use Rattle.lp_link.specs.Linked.{Copy, map_of, records_of, AreDenoted}
use Rattle.lp_link.specs.Put.{ArePut}
use Rattle.lp_link.specs.Numbers.{renumbered}
use Rattle.lp_link.specs.Renumbering.{AllRecordsMoved}
use Rattle.lp_link.proofs.ReachedRecords.{all_names, all_below}
use Rattle.lp_link.proofs.MovedCode.{all_names_moved, denote_moved}

as_many : (m : Map) (n : ℕ) (rs qs : List Record) → AllRecordsMoved m n rs qs → length qs ≡ length rs
as_many m n [] [] a = refl
as_many m n (r ∷ rs) (q ∷ qs) a = ap (λ k. suc k) (as_many m n rs qs a.1)
as_many m n [] (q ∷ qs) a = absurd a
as_many m n (r ∷ rs) [] a = absurd a

names_behind : (rs qs : List Record) → all_names (rs ++ qs) ≡ all_names rs ++ all_names qs
names_behind [] qs = refl
names_behind (r ∷ rs) qs = ap (λ l. names_in r.code.items ++ l) (names_behind rs qs) ∙ sym (appended (names_in r.code.items) (all_names rs) (all_names qs))
  where
    appended : (xs ys zs : List ℕ) → (xs ++ ys) ++ zs ≡ xs ++ (ys ++ zs)
    appended [] ys zs = refl
    appended (x ∷ xs) ys zs = ap (λ l. x ∷ l) (appended xs ys zs)

appended_records : (xs ys zs : List Record) → (xs ++ ys) ++ zs ≡ xs ++ (ys ++ zs)
appended_records [] ys zs = refl
appended_records (x ∷ xs) ys zs = ap (λ l. x ∷ l) (appended_records xs ys zs)

long_behind : (xs ys : List Record) → length (xs ++ ys) ≡ length xs + length ys
long_behind [] ys = omega arith
long_behind (x ∷ xs) ys = let e = long_behind xs ys in omega (arith, e)

weaker : (a b : ℕ) → a ≤ b → (xs : List ℕ) → EachOf (λ k. k < a) xs → EachOf (λ k. k < b) xs
weaker a b l [] e = tt
weaker a b l (x ∷ xs) e = (let h = e.0 in omega (arith, l, h), weaker a b l xs e.1)

module _ (u : Tables) where
  put_denotes : (front : List Record) (n : ℕ) (cs : List Copy) (rs : List Record) (ds : List Clause) → n ≡ length front → EachOf (λ k. k < n) (all_names front) → ArePut u n cs rs → AreDenoted n cs ds
      → denote_from u (front ++ rs) n rs ≡ Some ds
  put_denotes front n [] rs ds long below put are = ap (denote_from u (front ++ rs) n) put ∙ ap Some (sym are)
  put_denotes front n (c ∷ cs) rs ds long below (own, more, parts, keeps, tables, moved, put) (es, fs, denotes, others, is) =
      let k = length (records_of c) in
      let m = map_of n c in
      let many = as_many m n (records_of c) own moved in
      let own_below : EachOf (λ j. j < n + k) (all_names own) = subst (EachOf (λ j. j < n + k)) (sym (all_names_moved m n (records_of c) own moved))
      (each_map (λ j. j < k) (λ j. j < n + k) (λ j. n + j) (λ j l. omega (arith, l)) (all_names (records_of c)) (all_below (object_tables c.object) (records_of c) es denotes)) in
      let front_below : EachOf (λ j. j < n + k) (all_names (front ++ own)) = subst (EachOf (λ j. j < n + k)) (sym (names_behind front own))
      (each_append (λ j. j < n + k) (all_names front) (all_names own) (weaker n (n + k) (omega arith) (all_names front) below) own_below) in
      let long_now : n + k ≡ length (front ++ own) = (let e = long_behind front own in omega (arith, e, long, many)) in
      let behind : denote_from u (front ++ (own ++ more)) (n + k) more ≡ Some fs =
      ap (λ l. denote_from u l (n + k) more) (sym (appended_records front own more)) ∙ put_denotes (front ++ own) (n + k) cs more fs long_now front_below put others in
      ap (λ l. denote_from u (front ++ l) n l) parts
      ∙ ap (λ j. denote_from u (front ++ (own ++ more)) j (own ++ more)) (let z : n ≡ n + 0 = omega arith in z)
      ∙ denote_moved (renumbered 8 c.kinds) (renumbered 32 c.constants) n keeps (object_tables c.object) u tables front (records_of c) own more
      long below moved 0 (records_of c) own moved (omega arith) es fs denotes (n + k) (omega arith) behind
      ∙ ap Some (sym is)

  pub linked_denotes : (cs : List Copy) (rs : List Record) (ds : List Clause) → ArePut u 0 cs rs → AreDenoted 0 cs ds → denote u rs ≡ Some ds
  linked_denotes cs rs ds put are = put_denotes [] 0 cs rs ds refl tt put are
