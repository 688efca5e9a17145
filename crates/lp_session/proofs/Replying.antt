-- The reply to a line, from what replies to its query.
use Rattle.std.proofs.Common.{◌≡◌, ℕ, ◌<◌, List, [], ◌++◌, length, Option, Some, None, Result, Ok, Err, refl, sym, ap, ◌∙◌, subst, arith, inl, inr}
use Rattle.std.specs.Prelude.{slice_get, IsErrAnd}
use Rattle.std.proofs.lemmas.List.{length-map}
use Rattle.lp_base.specs.Written.{Appends, AppendsPrefix}
use Rattle.lp_lexer.specs.declared.token.Token.{Token}
use Rattle.lp_session.specs.declared.form.Form.TheVariants.{Printed, Unfit}
use Rattle.lp_session.specs.declared.replies.ReplyRefusal.{ReplyRefusal}
use Rattle.lp_session.specs.declared.replies.ReplyRefusal.TheVariants as reply
use Rattle.lp_session.specs.declared.serving.SessionRefusal.{SessionRefusal}
use Rattle.lp_session.specs.declared.serving.SessionRefusal.TheVariants.{Memory}
use Rattle.lp_session.specs.Form.{piece}
use Rattle.lp_session.specs.Said.{unexpected_line, undeclared_line}
use Rattle.lp_session.specs.Replies.{Meaning, IsGiven, HasReplied, HasMissed, Begins, IsBroken}
use Rattle.lp_session.specs.Served.{HasForm, IsPlain, names_at, names_in, behind_dot, column_at, IsReply, plain, printed, undeclared, unfit, BeginsReply, refused, Says, Replied}
use Rattle.lp_session.proofs.Appending.{appends_nothing, appends_both, prefix_behind}

same_names : (x y : List (List ℕ)) → Some x ≡ Some y → x ≡ y
same_names x y e = cc

-- an error that is passed up
pub by_error : (r : Result ℕ SessionRefusal) (e : SessionRefusal) (P : Result ℕ SessionRefusal → Type 0) → IsErrAnd r (λ y. y ≡ e) → P (Err e) → P r
by_error (Ok n) e P h p = absurd h
by_error (Err y) e P h p = subst (λ z. P (Err z)) (sym h) p

module _ (M : Meaning) (line : List ℕ) where
  abbrev said : Token → List ℕ
  said t = undeclared_line (column_at line t.from) (piece line t.from t.to)

  -- want of memory before anything was written
  pub broken_before : (old new : Option (List ℕ)) → new ≡ old → Replied M line old new (Err Memory)
  broken_before old new s = ([], (inl refl, (inl refl, subst (λ o. Appends old o []) (sym s) (appends_nothing old))))

  -- of a reply to some query and names each whole one is a reply to the line
  module _ (query : List ℕ) (shown : Option (List (List ℕ))) (is : (r : List ℕ) (n : ℕ) → IsGiven M query shown r n → IsReply M line r n) (old new : Option (List ℕ)) where
    pub line_replied : (n : ℕ) → HasReplied M query shown old new n → Replied M line old new (Ok n)
    line_replied n h = (h.reply, (is h.reply n h.given, h.appended))

    begins : (begun : List ℕ) → Begins M query shown begun → BeginsReply M line begun
    begins begun (inl e) = inl e
    begins begun (inr (rest, (n, g))) = inr (rest, (n, is (begun ++ rest) n g))

    pub line_broken : (e : ReplyRefusal) → IsBroken M query shown old new e → Replied M line old new (Err (refused e))
    line_broken reply.Write (r, (n, (g, h))) = (r, (n, (is r n g, h)))
    line_broken reply.Memory (b, (w, (g, h))) = (b, (w, (begins b g, h)))

  pub as_plain : IsPlain line → (r : List ℕ) (n : ℕ) → IsGiven M line None r n → IsReply M line r n
  as_plain p r n g = plain r n p g

  module _ (dot to : ℕ) (tokens : List Token) (f : HasForm line (Printed dot to) tokens) (query : List ℕ) (shown : Option (List (List ℕ)))
      (qe : query ≡ behind_dot line to) (se : shown ≡ Some (names_in line (names_at dot tokens))) where
    pub as_printed : (r : List ℕ) (n : ℕ) → IsGiven M query shown r n → IsReply M line r n
    as_printed r n g = printed dot to tokens r n f (subst (λ z. IsGiven M (behind_dot line to) z r n) se (subst (λ z. IsGiven M z shown r n) qe g))

    missing : (old mid : Option (List ℕ)) (i : ℕ) → HasMissed M query shown old mid i → M.lacking (behind_dot line to) (names_in line (names_at dot tokens)) i
    missing old mid i h =
        let e : h.names ≡ names_in line (names_at dot tokens) = same_names h.names (names_in line (names_at dot tokens)) (sym h.shown_names ∙ se) in
        subst (λ z. M.lacking (behind_dot line to) z i) e (subst (λ z. M.lacking z h.names i) qe h.lacks)

    as_undeclared : (old mid : Option (List ℕ)) (i : ℕ) (t : Token) → HasMissed M query shown old mid i → slice_get (names_at dot tokens) i ≡ Some t
        → IsReply M line (said t) 0
    as_undeclared old mid i t h g = undeclared dot to tokens i t (said t) f (missing old mid i h) g refl

    pub missed_there : (old mid : Option (List ℕ)) (i : ℕ) → HasMissed M query shown old mid i → i < length (names_at dot tokens)
    missed_there old mid i h =
        let e : h.names ≡ names_in line (names_at dot tokens) = same_names h.names (names_in line (names_at dot tokens)) (sym h.shown_names ∙ se) in
        let n = ap length e ∙ length-map (names_at dot tokens) (λ t. piece line t.from t.to) in
        let l = h.there in
        omega (arith, n, l)

    pub missed_said : (old mid new : Option (List ℕ)) (i : ℕ) (t : Token) (text : List ℕ) (r : Result ℕ SessionRefusal) → HasMissed M query shown old mid i → slice_get (names_at dot tokens) i ≡ Some t
        → text ≡ said t → Says text mid new r → Replied M line old new r
    missed_said old mid new i t text (Ok n) h g e (z, a) =
        (said t, (subst (IsReply M line (said t)) (sym z) (as_undeclared old mid i t h g), appends_both old mid new [] (said t) h.appended (subst (Appends mid new) e a)))
    missed_said old mid new i t text (Err y) h g e (w, a) =
        subst (λ z. Replied M line old new (Err z)) (sym w)
        (said t, (0, (as_undeclared old mid i t h g, prefix_behind old mid new [] (said t) h.appended (subst (AppendsPrefix mid new) e a))))

    pub missed_memory : (old mid new : Option (List ℕ)) (i : ℕ) → HasMissed M query shown old mid i → new ≡ mid → Replied M line old new (Err Memory)
    missed_memory old mid new i h s = ([], (inl refl, (inl refl, subst (λ o. Appends old o []) (sym s) h.appended)))

  module _ (at : ℕ) (tokens : List Token) (f : HasForm line (Unfit at) tokens) (old new : Option (List ℕ)) (text : List ℕ) (e : text ≡ unexpected_line (column_at line at)) where
    pub unfit_said : (r : Result ℕ SessionRefusal) → Says text old new r → Replied M line old new r
    unfit_said (Ok n) (z, a) = (text, (subst (IsReply M line text) (sym z) (unfit at tokens text f e), a))
    unfit_said (Err y) (w, a) = subst (λ z. Replied M line old new (Err z)) (sym w) (text, (0, (unfit at tokens text f e, a)))
