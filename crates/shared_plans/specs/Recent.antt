-- The plans that are kept, and the keys that were looked up.
pub use Rattle.lru.specs.LruCache.{promoted}
use Rattle.std.specs.Prelude.{ℕ, ◌+◌, ◌-◌, ◌^◌, ◌&&◌, Bool, nat_eq, List, [], ◌∷◌, map, min, take, if◌then◌else◌}
use Rattle.std.specs.List.{list_any}
use Rattle.std.specs.Str.{bytes_eq}

-- a text, the role that asks, and how many changes and loads were accepted before
pub record Key : Type 0 where
  pub text : List ℕ
  pub role : List ℕ
  pub changes : ℕ
  pub loads : ℕ

abbrev pub same_key : Key → Key → Bool
same_key k l = bytes_eq k.text l.text && (bytes_eq k.role l.role && (nat_eq k.changes l.changes && nat_eq k.loads l.loads))

-- the most plans that are kept
abbrev pub most_plans : ℕ
most_plans = 64

-- the count of hits stays at its greatest value
abbrev pub one_more_hit : ℕ → ℕ
one_more_hit n = min (n + 1) (2 ^ 64 - 1)

-- ---- keys

-- the keys that were looked up, the most recently used first, and how many look-ups found one
pub record Recent : Type 0 where
  pub keys : List Key
  pub hits : ℕ

-- without the first key that is the same
abbrev pub without_key : Key → List Key → List Key
without_key k [] = []
without_key k (l ∷ ls) = if same_key k l then ls else l ∷ without_key k ls

-- a key that is there goes to the front and is a hit; another one is put in front, and the last of 65 is dropped
abbrev pub looked_up : Key → Recent → Recent
looked_up k r =
    if list_any (same_key k) r.keys then record { keys = k ∷ without_key k r.keys; hits = one_more_hit r.hits }
    else record { keys = take most_plans (k ∷ r.keys); hits = r.hits }

-- ---- plans

-- plans by key, the most recently used first, and the number of hits
pub record Plans (V : Type 0) : Type 0 where
  pub entries : List (Key × V)
  pub hits : ℕ

abbrev pub no_plans : {V : Type 0} → Plans V
no_plans = record { entries = []; hits = 0 }

-- the keys that were looked up
abbrev pub recent_of : {V : Type 0} → Plans V → Recent
recent_of plans = record { keys = map (λ e. e.0) plans.entries; hits = plans.hits }
