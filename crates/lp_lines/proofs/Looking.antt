-- One look at the outside behind another, and what comes of what was read.
use Rattle.std.proofs.Common.{◌≡◌, ℕ, ◌<◌, ◌≤◌, List, Option, Some, None, refl, sym, ap, ◌∙◌, subst, inl, inr, arith}
use Rattle.std.specs.Global.{Global}
use Rattle.std.specs.Result.{IsErrAnd}
use Rattle.std.specs.Prelude.{Vec, ◌⊎◌, IfSome, Result, Ok, Err, IfErr, IsErrOf}
use Rattle.std.proofs.lemmas.Bool.{cases_lt}
use Rattle.lp_base.specs.Counts.{Counts, HasRisen}
use Rattle.lp_base.specs.Held.{Held}
use Rattle.lp_base.specs.Read.{IsLonger, IsTooLong}
use Rattle.lp_base.specs.declared.limit.Limit.{Limit}
use Rattle.lp_base.specs.declared.outside.ReadErr.{ReadErr}
use Rattle.lp_base.specs.declared.outside.ReadErr.TheVariants as read
use Rattle.lp_base.specs.declared.status.Status.{Status}
use Rattle.lp_base.specs.declared.status.Status.TheVariants as variant
use Rattle.lp_lines.specs.Ends.{Caused, CausedLong, IsOtherLimit}
use Rattle.lp_lines.specs.Looked.{refusal_of, IsUnread, Found, EndsAs, LacksMemory, IfLimited, Causes, CausesLong, Looked}
use Rattle.lp_lines.specs.Refusals.{IsJudged, IsRefusal, IsSourceRefusal, IsTextRefusal}
use Rattle.lp_lines.specs.declared.refusal.Refusal.{Refusal}
use Rattle.lp_lines.specs.declared.refusal.Refusal.TheVariants.{Line, Memory}
use Rattle.lp_lines.proofs.Refusing.{text_is_source, text_not_fault, text_not_missing, text_limit}

-- a count that cannot have risen
pub stood : (old new : ℕ) → old ≤ new → (old < new → ⊥) → new ≡ old
stood old new up never = go (cases_lt old new)
  where
    go : (old < new) ⊎ (new ≤ old) → new ≡ old
    go (inl l) = absurd (never l)
    go (inr l) = omega arith

pub nothing : (status : Status) → EndsAs status None ⊎ LacksMemory None → ⊥
nothing status (inl x) = x
nothing status (inr x) = x

-- the counts behind a look that found nothing amiss stand
pub cause_stood : (status : Status) (a b : ℕ) → Causes status None a b → b ≡ a
cause_stood status a b h = stood a b h.never_falls (λ l. nothing status (h.rises_only_then l))

pub long_stood : (a b : ℕ) → CausesLong None a b → b ≡ a
long_stood a b h = stood a b h.never_falls (λ l. nothing variant.Limit (h.rises_only_then l))

cause_then : (status : Status) (r : Option Refusal) (a b c : ℕ) → Causes status None a b → Causes status r b c → Causes status r a c
cause_then status r a b c h k = subst (λ n. Causes status r n c) (cause_stood status a b h) k

limit_then : (r : Option Refusal) (a b c : ℕ) → CausesLong None a b → CausesLong r b c → CausesLong r a c
limit_then r a b c h k = subst (λ n. CausesLong r n c) (long_stood a b h) k

cause_still : (status : Status) (r : Option Refusal) (n : ℕ) → (EndsAs status r → ⊥) → Causes status r n n
cause_still status r n never = record { never_falls = omega arith; rises_only_then = λ l. absurd (omega arith); risen = λ e. absurd (never e) }

limit_still : (r : Option Refusal) (n : ℕ) → IfLimited r IsOtherLimit → CausesLong r n n
limit_still r n other = record { never_falls = omega arith; rises_only_then = λ l. absurd (omega arith); risen = go r other }
  where
    go : (r : Option Refusal) → IfLimited r IsOtherLimit → IfLimited r (λ line. HasRisen n n ⊎ IsOtherLimit line)
    go None h = tt
    go (Some (Line said line)) h = λ e. inr (h e)
    go (Some Memory) h = tt

pub cause_none : {P : Type 0} {o n : ℕ} (status : Status) → Counts P o n → (P → ⊥) → Causes status None o n
cause_none status c never = record { never_falls = c.never_falls; rises_only_then = λ l. absurd (never (c.rises_only_then l)); risen = λ e. absurd e }

pub long_none : {P : Type 0} {o n : ℕ} → Counts P o n → (P → ⊥) → CausesLong None o n
long_none c never = record { never_falls = c.never_falls; rises_only_then = λ l. absurd (never (c.rises_only_then l)); risen = tt }

judged_not_fault : (said : Status) (line : Vec ℕ Global) → IsJudged (Line said line) → said ≡ variant.ReadFault → ⊥
judged_not_fault said line h e = elim h [ inl a ↦ cc | inr x ↦ text_not_fault said line x e ]

judged_not_missing : (said : Status) (line : Vec ℕ Global) → IsJudged (Line said line) → said ≡ variant.Missing → ⊥
judged_not_missing said line h e = elim h [ inl a ↦ cc | inr x ↦ text_not_missing said line x e ]

judged_limit : (said : Status) (line : Vec ℕ Global) → IsJudged (Line said line) → said ≡ variant.Limit → IsOtherLimit line.items
judged_limit said line h e = elim h [ inl a ↦ absurd (cc) | inr x ↦ text_limit said line x e ]

judged_refusal : (r : Refusal) → IsJudged r → IsRefusal r
judged_refusal (Line said line) h = elim h [ inl a ↦ inl a | inr x ↦ inr (text_is_source (Line said line) x) ]
judged_refusal Memory h = tt

-- refusals of texts are refusals of what was read
pub text_judged : {T : Type 0} (r : Result T Refusal) → IfErr r IsTextRefusal → IfErr r IsJudged
text_judged (Ok x) h = tt
text_judged (Err (Line said line)) h = inr h
text_judged (Err Memory) h = tt

pub text_is_judged : (r : Refusal) → IsTextRefusal r → IsJudged r
text_is_judged (Line said line) h = inr h
text_is_judged Memory h = tt

pub source_refusal : (r : Refusal) → IsSourceRefusal r → IsRefusal r
source_refusal (Line said line) h = inr h
source_refusal Memory h = tt

bare : {T : Type 0} {x y : ReadErr} → ◌≡◌ {A = Result T ReadErr} (Err x) (Err y) → x ≡ y
bare e = cc

-- why a file was not read: each count by its refusal
module _ (file : List ℕ) (passed : Limit) (o n : ℕ) where
  cause_of_fault : {T : Type 0} (x : ReadErr) (r : Refusal) → IsUnread file passed x r → Counts (IsErrOf {T = T} (Err x) read.Failed) o n → Causes variant.ReadFault (Some r) o n
  cause_of_fault {T} x r u c = record { never_falls = c.never_falls; rises_only_then = λ l. rises x r u (bare (c.rises_only_then l)); risen = λ e. c.risen (ap Err (back x r u e)) }
    where
      rises : (x : ReadErr) (r : Refusal) → IsUnread file passed x r → x ≡ read.Failed → EndsAs variant.ReadFault (Some r) ⊎ LacksMemory (Some r)
      rises read.Failed (Line said line) u e = inl u.0
      rises read.Failed Memory u e = inr tt
      rises read.Missing r u e = absurd (cc)
      rises (read.TooLong m) r u e = absurd (cc)
      rises read.Memory r u e = absurd (cc)

      back : (x : ReadErr) (r : Refusal) → IsUnread file passed x r → EndsAs variant.ReadFault (Some r) → x ≡ read.Failed
      back read.Failed r u e = refl
      back read.Missing (Line said line) u e = let a = u.0 in absurd (cc)
      back (read.TooLong m) (Line said line) u e = let a = u.0 in absurd (cc)
      back read.Memory (Line said line) u e = absurd (cc)
      back read.Missing Memory u e = absurd e
      back (read.TooLong m) Memory u e = absurd e
      back read.Memory Memory u e = absurd e

  cause_of_missing : {T : Type 0} (x : ReadErr) (r : Refusal) → IsUnread file passed x r → Counts (IsErrOf {T = T} (Err x) read.Missing) o n → Causes variant.Missing (Some r) o n
  cause_of_missing {T} x r u c = record { never_falls = c.never_falls; rises_only_then = λ l. rises x r u (bare (c.rises_only_then l)); risen = λ e. c.risen (ap Err (back x r u e)) }
    where
      rises : (x : ReadErr) (r : Refusal) → IsUnread file passed x r → x ≡ read.Missing → EndsAs variant.Missing (Some r) ⊎ LacksMemory (Some r)
      rises read.Missing (Line said line) u e = inl u.0
      rises read.Missing Memory u e = inr tt
      rises read.Failed r u e = absurd (cc)
      rises (read.TooLong m) r u e = absurd (cc)
      rises read.Memory r u e = absurd (cc)

      back : (x : ReadErr) (r : Refusal) → IsUnread file passed x r → EndsAs variant.Missing (Some r) → x ≡ read.Missing
      back read.Missing r u e = refl
      back read.Failed (Line said line) u e = let a = u.0 in absurd (cc)
      back (read.TooLong m) (Line said line) u e = let a = u.0 in absurd (cc)
      back read.Memory (Line said line) u e = absurd (cc)
      back read.Failed Memory u e = absurd e
      back (read.TooLong m) Memory u e = absurd e
      back read.Memory Memory u e = absurd e

  cause_of_length : (T : Type 0) (x : ReadErr) (r : Refusal) → IsUnread file passed x r → Counts (IsTooLong {T = T} (Err x)) o n → CausesLong (Some r) o n
  cause_of_length T x r u c = record { never_falls = c.never_falls; rises_only_then = λ l. rises x r u (c.rises_only_then l); risen = back x r u c.risen }
    where
      rises : (x : ReadErr) (r : Refusal) → IsUnread file passed x r → IsTooLong {T = T} (Err x) → EndsAs variant.Limit (Some r) ⊎ LacksMemory (Some r)
      rises (read.TooLong m) (Line said line) u e = inl u.0
      rises (read.TooLong m) Memory u e = inr tt
      rises read.Failed r u e = absurd e
      rises read.Missing r u e = absurd e
      rises read.Memory r u e = absurd e

      back : (x : ReadErr) (r : Refusal) → IsUnread file passed x r → (IsTooLong {T = T} (Err x) → HasRisen o n) → IfLimited (Some r) (λ line. HasRisen o n ⊎ IsOtherLimit line)
      back (read.TooLong m) (Line said line) u up = λ e. inl (up tt)
      back read.Failed (Line said line) u up = λ e. let a = u.0 in absurd (cc)
      back read.Missing (Line said line) u up = λ e. let a = u.0 in absurd (cc)
      back read.Memory (Line said line) u up = λ e. absurd (cc)
      back x Memory u up = tt

unread_refusal : (file : List ℕ) (passed : Limit) (x : ReadErr) (r : Refusal) → IsUnread file passed x r → IsRefusal r
unread_refusal file passed x Memory u = tt
unread_refusal file passed read.Failed (Line said line) u = inr (inr (inr (inr (u.0, (file, u.1)))))
unread_refusal file passed read.Missing (Line said line) u = inr (inr (inl u.0))
unread_refusal file passed (read.TooLong m) (Line said line) u = inr (inr (inr (inl u.0)))
unread_refusal file passed read.Memory (Line said line) u = absurd (cc)

-- what a file that was not read comes to
pub found_unread : (T : Type 0) (file : List ℕ) (most : ℕ) (passed : Limit) (told : Option Held) (x : ReadErr) (r : Refusal) → IsUnread file passed x
    r → (x ≡ read.Missing → IfSome told (λ held. held file ≡ None)) → (IsTooLong {T = T} (Err x) → IfSome told (λ held. IsLonger (held file) most)) →
    Found file most passed told (Err r)
found_unread T file most passed told x Memory u missing long = tt
found_unread T file most passed told read.Failed (Line said line) u missing long = inl u
found_unread T file most passed told read.Missing (Line said line) u missing long = inr (inl (u.0, (u.1, missing refl)))
found_unread T file most passed told (read.TooLong n) (Line said line) u missing long = inr (inr (u.0, (u.1, long tt)))
found_unread T file most passed told read.Memory (Line said line) u missing long = absurd (cc)

module _ {F : Type 0} {rf ms ov wf : F → ℕ} {held : F → Option Held} where
  pub looked_memory : {a : F} → Looked rf ms ov wf held a a (Some Memory)
  looked_memory {a} = record {
    kind = tt;
    read = cause_still variant.ReadFault (Some Memory) (rf a) (λ e. e);
    missing = cause_still variant.Missing (Some Memory) (ms a) (λ e. e);
    long = limit_still (Some Memory) (ov a) tt;
    unwritten = refl;
    same = refl;
  }

  pub looked_nowhere : {a : F} → Looked rf ms ov wf held a a None
  looked_nowhere {a} = record {
    kind = tt;
    read = cause_still variant.ReadFault None (rf a) (λ e. e);
    missing = cause_still variant.Missing None (ms a) (λ e. e);
    long = limit_still None (ov a) tt;
    unwritten = refl;
    same = refl;
  }

  pub looked_then : {a b c : F} {r : Option Refusal} → Looked rf ms ov wf held a b None → Looked rf ms ov wf held b c r → Looked rf ms ov wf held a c r
  looked_then {a} {b} {c} {r} h k = record {
    kind = k.kind;
    read = cause_then variant.ReadFault r (rf a) (rf b) (rf c) h.read k.read;
    missing = cause_then variant.Missing r (ms a) (ms b) (ms c) h.missing k.missing;
    long = limit_then r (ov a) (ov b) (ov c) h.long k.long;
    unwritten = k.unwritten ∙ h.unwritten;
    same = k.same ∙ h.same;
  }

  judged_here : {T : Type 0} (r : Result T Refusal) → IfErr r IsJudged → (b : F) → Looked rf ms ov wf held b b (refusal_of r)
  judged_here (Ok x) j b = looked_nowhere
  judged_here (Err Memory) j b = looked_memory
  judged_here (Err (Line said line)) j b = record {
    kind = judged_refusal (Line said line) j;
    read = cause_still variant.ReadFault (Some (Line said line)) (rf b) (judged_not_fault said line j);
    missing = cause_still variant.Missing (Some (Line said line)) (ms b) (judged_not_missing said line j);
    long = limit_still (Some (Line said line)) (ov b) (judged_limit said line j);
    unwritten = refl;
    same = refl;
  }

  -- what was read is judged, without a further look
  pub looked_judged : {T : Type 0} {a b : F} (r : Result T Refusal) → Looked rf ms ov wf held a b None → IfErr r IsJudged → Looked rf ms ov wf held a b (refusal_of r)
  looked_judged {T} {a} {b} r h j = looked_then h (judged_here r j b)

  -- a refusal that is passed up
  pub looked_passed : {T : Type 0} {a b : F} (r : Result T Refusal) (e : Refusal) → IsErrAnd r (λ y. y ≡ e) → Looked rf ms ov wf held a b (Some e) → Looked rf ms ov wf held a b (refusal_of r)
  looked_passed (Ok x) e is h = absurd is
  looked_passed {T} {a} {b} (Err y) e is h = subst (λ z. Looked rf ms ov wf held a b (Some z)) (sym is) h

  -- a file was read
  pub looked_read : {T : Type 0} {a b : F} {x : T} → Counts (IsErrOf {E = ReadErr} (Ok x) read.Failed) (rf a) (rf b) → Counts (IsErrOf {E = ReadErr} (Ok x) read.Missing) (ms a) (ms b) → Counts (IsTooLong (Ok x)) (ov a) (ov b) → wf b ≡ wf a → held b ≡ held a → Looked rf ms ov wf held a b None
  looked_read c d l w h = record {
    kind = tt;
    read = cause_none variant.ReadFault c (λ e. cc);
    missing = cause_none variant.Missing d (λ e. cc);
    long = long_none l (λ e. e);
    unwritten = w;
    same = h;
  }

  -- a file was not read, and the refusal tells why
  pub looked_unread : {T : Type 0} {a b : F} (file : List ℕ) (passed : Limit) (x : ReadErr) (r : Refusal) → IsUnread file passed x r → Counts
      (IsErrOf {T = T} (Err x) read.Failed) (rf a) (rf b) → Counts (IsErrOf {T = T} (Err x) read.Missing) (ms a) (ms b) → Counts
      (IsTooLong {T = T} (Err x)) (ov a) (ov b) → wf b ≡ wf a → held b ≡ held a → Looked rf ms ov wf held a b (Some r)
  looked_unread {T} {a} {b} file passed x r u c d l w h = record {
    kind = unread_refusal file passed x r u;
    read = cause_of_fault file passed (rf a) (rf b) x r u c;
    missing = cause_of_missing file passed (ms a) (ms b) x r u d;
    long = cause_of_length file passed (ov a) (ov b) T x r u l;
    unwritten = w;
    same = h;
  }

-- the counts behind a look that found nothing amiss, where the run ends otherwise
pub look_caused : (status : Status) (o m n : ℕ) (result : Status) → Causes status None o m → n ≡ m → (result ≡ status → ⊥) → Caused result status o n
look_caused status o m n result c e never = record {
  never_falls = let up = c.never_falls in omega arith;
  rises_only_then = λ l. absurd (nothing status (c.rises_only_then (let up : o < m = omega arith in up)));
  risen = λ h. absurd (never h);
}

pub look_caused_long : (o m n : ℕ) (a b : Option (List ℕ)) (result : Status) → CausesLong None o m → n ≡ m → (result ≡ variant.Limit → ⊥) → CausedLong result a b o n
look_caused_long o m n a b result c e never = record {
  never_falls = let up = c.never_falls in omega arith;
  rises_only_then = λ l. absurd (nothing variant.Limit (c.rises_only_then (let up : o < m = omega arith in up)));
  risen = λ h. absurd (never h);
}
