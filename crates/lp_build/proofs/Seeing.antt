-- The signatures that a module sees, one after the other, and the operators of those that are seen.
use Rattle.std.proofs.Common.{◌≡◌, ℕ, List, [], ◌∷◌, ◌++◌, Option, Some, None, Bool, true, false, inl, inr, refl, sym, ap, subst, ◌∙◌}
use Rattle.std.specs.Prelude.{◌⊎◌, Contains, nat_eq, not}
use Rattle.std.specs.List.{list_any}
use Rattle.std.specs.Option.{option_to_list}
use Rattle.std.proofs.lemmas.List.Elements.{Contains-append_left, Contains-append_right, Contains-append_cases}
use Rattle.indexmap.specs.IndexSet.{insert_key}
use Rattle.lp_syntax.specs.Tokens.{Operators}
use Rattle.lp_build.specs.Sights.{Sees, SeesFirst, sees_first, sees_more, signature_of, accum_sig_at, accumulate_at, InForce, standard_ones, seen_file, other_file}
use Rattle.lp_build.specs.inner.Linked.{IsPutBack, IsSeenSoFar}
use Rattle.lp_build.proofs.Sets.{nothing_in, only_one, found_there, last_in, front_in, in_pushed, inserted_new, inserted_old, inserted_from}
use Rattle.lp_build.specs.declared.sources.File.{File}

-- the files that are seen are the same
pub force_same : {files : List File} {P Q : ℕ → Type 0} {n : ℕ} {ops : Operators} → ((k : ℕ) → P k → Q k) → ((k : ℕ) → Q k → P k) → InForce files P n ops → InForce files Q n ops
force_same f g (standard_ones ops h) = standard_ones ops h
force_same f g (seen_file n m x ops after before at seen all next) = seen_file n m x ops after (force_same f g before) at (f n seen) all next
force_same f g (other_file n m ops before unseen next) = other_file n m ops (force_same f g before) (λ q. unseen (g n q)) next

-- two lists behind nothing
pub first_two : (w x y a b p q : List ℕ) → w ≡ [] → x ≡ w ++ a → y ≡ x ++ b → a ≡ p → b ≡ q → y ≡ p ++ q
first_two w x y a b p q ew ex ey ea eb = ey ∙ (λ i. (ex ∙ ap (λ l. l ++ a) ew ∙ ea) i ++ eb i)

-- one that was not met before
pub put_new : (files : List File) (number : ℕ) (seen work after : List ℕ) → after ≡ work ++ accum_sig_at files number → IsPutBack files number seen work after
put_new files number seen work after e = record {
  stays = λ k c. subst (λ l. Contains l k) (sym e) (Contains-append_left work (accum_sig_at files number) k c);
  only = λ k c. Contains-append_cases work (accum_sig_at files number) k (subst (λ l. Contains l k) e c);
  closes = inr (λ k c. subst (λ l. Contains l k) (sym e) (Contains-append_right work (accum_sig_at files number) k c));
}

-- one that was
pub put_old : (files : List File) (number : ℕ) (seen work : List ℕ) (r : Bool) → r ≡ not (list_any (nat_eq number) seen) → r ≡ false → IsPutBack files number seen work work
put_old files number seen work r is no_one = record { stays = λ k c. c; only = λ k c. inl c; closes = inl (found_there seen number (by (list_any (nat_eq number) seen) (sym is ∙ no_one))) }
  where
    by : (t : Bool) → not t ≡ false → t ≡ true
    by true e = refl
    by false e = absurd (cc)

module _ (files : List File) (file : ℕ) (name : List ℕ) where
  -- at the beginning nothing is met
  pub seen_start : (seen work : List ℕ) → seen ≡ [] → work ≡ accum_sig_at files file ++ accumulate_at files file ++ option_to_list (signature_of files name) → IsSeenSoFar files file name seen work
  seen_start seen work e is = record {
    met = λ k h. absurd (nothing_in k (subst (λ l. Contains l k) e h));
    waiting = λ k h. sees_first k (begun k (subst (λ l. Contains l k) is h));
    first = λ k h. inr (subst (λ l. Contains l k) (sym is) (begins k h));
    closed = λ j k h c. absurd (nothing_in j (subst (λ l. Contains l j) e h));
  }
    where
      in_option : (o : Option ℕ) (k : ℕ) → Contains (option_to_list o) k → o ≡ Some k
      in_option None k c = absurd (nothing_in k c)
      in_option (Some n) k c = ap (λ x. Some x) (only_one n k c)

      of_two : (k : ℕ) → Contains (accum_sig_at files file) k ⊎ Contains (accumulate_at files file) k → SeesFirst files file name k
      of_two k h = inr h

      of_three : (k : ℕ) → Contains (accum_sig_at files file ++ accumulate_at files file) k ⊎ Contains (option_to_list (signature_of files name)) k → SeesFirst files file name k
      of_three k (inl c) = of_two k (Contains-append_cases (accum_sig_at files file) (accumulate_at files file) k c)
      of_three k (inr c) = inl (in_option (signature_of files name) k c)

      begun : (k : ℕ) → Contains (accum_sig_at files file ++ accumulate_at files file ++ option_to_list (signature_of files name)) k → SeesFirst files file name k
      begun k c = of_three k (Contains-append_cases (accum_sig_at files file ++ accumulate_at files file) (option_to_list (signature_of files name)) k c)

      begins : (k : ℕ) → SeesFirst files file name k → Contains (accum_sig_at files file ++ accumulate_at files file ++ option_to_list (signature_of files name)) k
      begins k (inl e) = Contains-append_right (accum_sig_at files file ++ accumulate_at files file) (option_to_list (signature_of files name)) k
          (subst (λ o. Contains (option_to_list o) k) (sym e) (last_in [] k))
      begins k (inr (inl c)) = Contains-append_left (accum_sig_at files file ++ accumulate_at files file) (option_to_list (signature_of files name)) k
          (Contains-append_left (accum_sig_at files file) (accumulate_at files file) k c)
      begins k (inr (inr c)) = Contains-append_left (accum_sig_at files file ++ accumulate_at files file) (option_to_list (signature_of files name)) k
          (Contains-append_right (accum_sig_at files file) (accumulate_at files file) k c)

  -- where nothing is left, what was met is what is seen
  pub seen_all : (seen work : List ℕ) → work ≡ [] → IsSeenSoFar files file name seen work → (k : ℕ) → Sees files file name k → Contains seen k
  seen_all seen work e so _ (sees_first k h) = by (so.first k h)
    where
      by : Contains seen k ⊎ Contains work k → Contains seen k
      by (inl c) = c
      by (inr c) = absurd (nothing_in k (subst (λ l. Contains l k) e c))
  seen_all seen work e so _ (sees_more j k before h) = by (so.closed j k (seen_all seen work e so j before) h)
    where
      by : Contains seen k ⊎ Contains work k → Contains seen k
      by (inl c) = c
      by (inr c) = absurd (nothing_in k (subst (λ l. Contains l k) e c))

  -- one more is met
  pub seen_one : (seen seen' work rest work' : List ℕ) (n : ℕ) → work ≡ rest ++ n ∷ [] → seen' ≡ insert_key nat_eq seen n → IsPutBack files n seen
      rest work' → IsSeenSoFar files file name seen work → IsSeenSoFar files file name seen' work'
  seen_one seen seen' work rest work' n taken key put so = record {
    met = λ k h. is_met k (inserted_from seen n k (subst (λ l. Contains l k) key h));
    waiting = λ k h. is_waiting k (put.only k h);
    first = λ k h. moved k (so.first k h);
    closed = λ j k h c. is_closed j k (inserted_from seen n j (subst (λ l. Contains l j) key h)) c;
  }
    where
      is_seen : Sees files file name n
      is_seen = so.waiting n (subst (λ l. Contains l n) (sym taken) (last_in rest n))

      is_met : (k : ℕ) → Contains seen k ⊎ (k ≡ n) → Sees files file name k
      is_met k (inl c) = so.met k c
      is_met k (inr e) = subst (λ x. Sees files file name x) (sym e) is_seen

      is_waiting : (k : ℕ) → Contains rest k ⊎ Contains (accum_sig_at files n) k → Sees files file name k
      is_waiting k (inl c) = so.waiting k (subst (λ l. Contains l k) (sym taken) (front_in rest n k c))
      is_waiting k (inr c) = sees_more n k is_seen c

      put_off : (k : ℕ) → Contains rest k ⊎ (k ≡ n) → Contains seen' k ⊎ Contains work' k
      put_off k (inl c) = inr (put.stays k c)
      put_off k (inr e) = inl (subst (λ l. Contains l k) (sym key) (inserted_new seen n k e))

      moved : (k : ℕ) → Contains seen k ⊎ Contains work k → Contains seen' k ⊎ Contains work' k
      moved k (inl c) = inl (subst (λ l. Contains l k) (sym key) (inserted_old seen n k c))
      moved k (inr c) = put_off k (in_pushed rest n k (subst (λ l. Contains l k) taken c))

      closing : (j k : ℕ) → j ≡ n → Contains (accum_sig_at files j) k → Contains seen n ⊎ ((x : ℕ) → Contains (accum_sig_at files n) x → Contains work' x) → Contains seen' k ⊎ Contains work' k
      closing j k e c (inl old) = moved k (so.closed n k old (subst (λ x. Contains (accum_sig_at files x) k) e c))
      closing j k e c (inr all) = inr (all k (subst (λ x. Contains (accum_sig_at files x) k) e c))

      is_closed : (j k : ℕ) → Contains seen j ⊎ (j ≡ n) → Contains (accum_sig_at files j) k → Contains seen' k ⊎ Contains work' k
      is_closed j k (inl old) c = moved k (so.closed j k old c)
      is_closed j k (inr e) c = closing j k e c put.closes
