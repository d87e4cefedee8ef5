-- A session at its index.
use Rattle.std.proofs.Common.{◌≡◌, ℕ, ◌-◌, List, drop, length, min, set, take, get_or, nat_eq, true, Option, Some, None, Result, Ok, Err, refl, sym, ap, ◌∙◌}
use Rattle.std.proofs.lemmas.List.{length-drop, set-get_or, take_min}
use Rattle.std.specs.List.{position_from, remove}
use Rattle.std.specs.Map.{lookup, remove_entry, set_value}
use Rattle.std.specs.Result.{IfOk, OnOk}
use Rattle.std.specs.Str.{bytes_eq}
use Rattle.replies.specs.Reply as engine
use Rattle.value.specs.Names.{Name}
use Rattle.memory.proofs.Cases.{some_is, none_is_not}
use Rattle.catalog.specs.Catalog.{is_role}
use Rattle.store.specs.Database.{Database}
use Rattle.sessions.specs.declared.reply.Reply as declared
use Rattle.sessions.specs.Events.{change, changed_state, database_after, login, opened, settled}
use Rattle.sessions.specs.Reply as reply
use Rattle.sessions.specs.Reply.{Reply}
use Rattle.sessions.specs.State.{State, Session, Cursor, advanced, current_role, has_login_room, next_rows, session_numbered, with_session}
use Rattle.sessions.specs.Taking.{Changes, ChangesTo, Fetches, FetchesIn, IsTaken, Takes}
use Rattle.sessions.specs.View.{reply_of}
use Rattle.sessions.proofs.Keys.{dropped_at, not_dropped, not_shown, shown_at, written_at}

module _ (database : Database) (es : List (ℕ × Session)) (next loads n : ℕ) where
  abbrev pub state : List (ℕ × Session) → State
  state l = record { database = database; sessions = l; next_session = next; loads = loads }

  module _ (ds : List (ℕ × Session)) (same : ds ≡ es) where
    module _ (i : ℕ) (here : Some i ≡ position_from (λ e. nat_eq n e.0) 0 ds) where
      pub dropped : state (remove es i) ≡ record (state es) { sessions = remove_entry (nat_eq n) es }
      dropped = ap state (dropped_at (nat_eq n) es ds same i here)

      module _ (old : ℕ × Session) (is : old ≡ get_or es i old) where
        -- the session at the index is that of the number
        pub known : session_numbered n (state es) ≡ Some old.1
        known = sym (shown_at (nat_eq n) es ds same i here old is)

        written : (new : Session) → state (set es i (old.0, new)) ≡ with_session n new (state es)
        written new = ap state (written_at (nat_eq n) es ds same i here old (old.0, new) is refl)

        -- a change of it is one of the session of the number
        pub put : (f : Session → Session) (new : Session) → new ≡ f old.1 → (x : Session) → session_numbered n (state es) ≡ Some x → state (set es i (old.0, new)) ≡ with_session n (f x) (state es)
        put f new e x found = written new ∙ ap (λ y. with_session n y (state es)) (e ∙ ap f (some_is old.1 x (sym known ∙ found)))

        -- written as it was, nothing changes
        pub unput : (new : Session) → new ≡ old.1 → state (set es i (old.0, new)) ≡ state es
        unput new e = let whole : (old.0, new) ≡ get_or es i old = ap (λ y. (old.0, y)) e ∙ is in ap state (ap (λ y. set es i y) whole ∙ set-get_or es i old)

    module _ (none : None ≡ position_from (λ e. nat_eq n e.0) 0 ds) where
      pub undropped : state es ≡ record (state es) { sessions = remove_entry (nat_eq n) es }
      undropped = ap state (not_dropped (nat_eq n) es ds same none)

      pub unknown : session_numbered n (state es) ≡ None
      unknown = sym (not_shown (nat_eq n) es ds same none)

      pub nobody : {P : Type 0} (x : Session) → session_numbered n (state es) ≡ Some x → P
      nobody x found = absurd (none_is_not x (sym unknown ∙ found))

-- a role that is there logs in
pub logs_in : (s : State) (role : Name) → is_role s.database.catalog role ≡ true → has_login_room s ≡ true → settled s (login s role) ≡ (reply.Session s.next_session, opened s role)
logs_in s role a b = rw (a, b) refl

-- a statement of a session
changed_to : (s : State) (database : Database) (given : Reply) (stated : Result Database Reply) → ChangesTo s.database database stated given → IsTaken (changed_state s stated) s (record s { database = database }) given
changed_to s database given (Ok d) h = (h.0, ap (λ d. record s { database = d }) h.1)
changed_to s database given (Err refusal) h = (h.0, ap (λ d. record s { database = d }) h.1)

pub changes : {A E : Type 0} (s : State) (n : ℕ) (text : List ℕ) (x : Session) → session_numbered n s ≡ Some x → (database : Database) (r : Result (declared.Reply A) E) → Changes s.database database (database_after s.database (current_role x) text) r
    → Takes (change s n text) s (record s { database = database }) r
changes s n text x known database (Ok given) h = rw known (changed_to s database (reply_of given) (database_after s.database (current_role x) text) h)
changes s n text x known database (Err e) h = ap (λ d. record s { database = d }) h

-- ---- fetches

-- the next of the rows, at most as many as are left
pub next_taken : {X : Type 0} (all : List X) (k n m : ℕ) → m ≡ min n (length all - k) → take m (drop k all) ≡ take n (drop k all)
next_taken all k n m is = rw (is, ← length-drop k all) (take_min n (drop k all))

pub both_ok : {X E Q : Type 0} (r : Result X E) (P R : X → Type 0) → IfOk r P → OnOk r Q → ((x : X) → P x → Q → R x) → IfOk r R
both_ok (Ok x) P R p q f = f x p q
both_ok (Err e) P R p q f = tt

module _ (login_role : Name) (set_role : Option Name) (prepared : List (Name × List ℕ)) (cs : List (Name × Cursor)) where
  abbrev pub session : List (Name × Cursor) → Session
  session l = record { login_role = login_role; set_role = set_role; prepared = prepared; cursors = l }

  module _ (name : Name) (ds : List (Name × Cursor)) (same : ds ≡ cs) (i : ℕ) (here : Some i ≡ position_from (λ e. bytes_eq name e.0) 0 ds) (old : Name × Cursor) (is : old ≡ get_or cs i old) where
    pub fetched_at : (count : ℕ) (given : engine.Reply) (new : Cursor) → given ≡ engine.Rows old.1.headings (next_rows old.1 count) → new ≡ advanced old.1 count → Fetches (session cs) (session (set cs i (old.0, new))) name count given
    fetched_at count given new e a = λ cursor found.
        let q : old.1 ≡ cursor = some_is old.1 cursor (shown_at (bytes_eq name) cs ds same i here old is ∙ found) in (
          e ∙ ap (λ z. engine.Rows z.headings (next_rows z count)) q,
          ap session (written_at (bytes_eq name) cs ds same i here old (old.0, new) is refl) ∙ ap (λ w. session (set_value (bytes_eq name) cs w)) (a ∙ ap (λ z. advanced z count) q),
        )

    pub unfetched : (new : Cursor) → new ≡ old.1 → session (set cs i (old.0, new)) ≡ session cs
    unfetched new e = let whole : (old.0, new) ≡ get_or cs i old = ap (λ y. (old.0, y)) e ∙ is in ap session (ap (λ y. set cs i y) whole ∙ set-get_or cs i old)

module _ (database : Database) (es : List (ℕ × Session)) (next loads n : ℕ) (ds : List (ℕ × Session)) (same : ds ≡ es) (i : ℕ) (here : Some i ≡ position_from (λ e. nat_eq n e.0) 0 ds) (old : ℕ × Session) (is : old ≡ get_or es i old) where
  pub fetched_in : (name : Name) (count : ℕ) (given : engine.Reply) (new : Session) → Fetches old.1 new name count given → FetchesIn (state database es next loads n es) (state database es next loads n (set es i (old.0, new))) n name count given
  fetched_in name count given new h = λ x found cursor there.
      let q : x ≡ old.1 = some_is x old.1 (sym found ∙ known database es next loads n ds same i here old is) in
      let h' = h cursor (ap (λ z. lookup (bytes_eq name) z.cursors) (sym q) ∙ there) in
      (h'.0, put database es next loads n ds same i here old is (λ z. record z { cursors = set_value (bytes_eq name) z.cursors (advanced cursor count) }) new h'.1 x found)
