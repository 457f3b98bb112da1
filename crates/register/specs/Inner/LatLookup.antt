-- Where to look for a variable whose name shares its first bytes with the current one's: names rise, so those that share them stand side by side.
use Rattle.std.specs.Prelude.{◌≡◌, ℕ, ◌+◌, ◌-◌, ◌≤◌, ◌<◌, true, List, [], ◌++◌, length, take, get_or, replicate, Ok}
use Rattle.stream.specs.Payload.{payload}
use Rattle.stream.specs.Inner.Payload.{room}
use Rattle.records.specs.Records.{bytes_at}
use Rattle.records.specs.Layout.{before}
use Rattle.scene.specs.declared.readers.Variable.{Variable}
use Rattle.scene.specs.Scene.{NamedValue}
use Rattle.scene.specs.Labels.{variable_of}
use Rattle.scene.specs.Inner.Answers.{variables_at, variables_by, Within, LengthPrefixed}
use Rattle.scene.specs.Laws.Rising.{Rising}

-- the prefix starts for more than c bytes, of 32, become q
unfoldable pub prefix_starts : List ℕ → ℕ → ℕ → List ℕ
prefix_starts starts c q = take (c + 1) starts ++ replicate (31 - c) q

-- u was the last name, and the variables from position q on are left
pub record Passed (vars : ℕ → List NamedValue) (u starts : List ℕ) (q : ℕ) : Type 0 where
  pub sized : length starts ≡ 32
  pub rising : Rising u (vars q)
  -- a later name is among those that are left
  pub later : (name : List ℕ) → before u name ≡ true → variable_of name (vars 0) ≡ variable_of name (vars q)
  -- a name that begins with j bytes of u is found from the j-th start on
  pub near : (j : ℕ) (name : List ℕ) → j < 32 → j ≤ length u → take j name ≡ take j u → variable_of name (vars 0) ≡ variable_of name (vars (get_or starts j 0))
  pub starts_rise : (j : ℕ) → j < 32 → Rising [] (vars (get_or starts j 0))

-- the last variable's name stands at `at`, and the next is looked for from q on
pub record Along (s starts : List ℕ) (at len q : ℕ) : Type 0 where
  pub passed : Passed (variables_at (payload s)) (bytes_at (payload s) at len) starts q
  pub within : at + len ≤ room s
  pub short : len ≤ 31

-- v is the first variable from q on
pub record FirstVariable (s : List ℕ) (q : ℕ) (v : Variable) : Type 0 where
  pub lists : variables_at (payload s) q ≡ variables_by (payload s) (Ok v)
  pub within : Within (room s) q v.at v.len v.next
  pub prefixed : LengthPrefixed (payload s) v.at v.len
