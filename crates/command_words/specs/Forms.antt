-- Words that are taken, and others, computed (this project's own).
use Rattle.std.specs.Prelude.{◌≡◌, ◌≤◌, ℕ, [], ◌∷◌, codes, decimal, Some, None}
use Rattle.command_words.specs.declared.request.Request.TheVariants.{Serve, Replay, Mirror, Check, Build, Gen}
use Rattle.command_words.specs.Asked.{words_request}

-- each form of the words; of the numbers of nodes the least and the greatest
pub record AreTaken : Type 0 where
  pub serve : words_request (codes "serve" ∷ []) ≡ Some (Serve 0)
  pub workers : (n : ℕ) → n ≤ 16
      → words_request (codes "serve" ∷ codes "--workers" ∷ decimal n ∷ []) ≡ Some (Serve n)
  pub replay : words_request (codes "replay" ∷ []) ≡ Some Replay
  pub mirror : words_request (codes "mirror" ∷ []) ≡ Some Mirror
  pub check : words_request (codes "check" ∷ []) ≡ Some Check
  pub build : words_request (codes "build" ∷ []) ≡ Some (Build 0)
  pub build_by : words_request (codes "build" ∷ codes "--workers" ∷ codes "16" ∷ []) ≡ Some
      (Build 16)
  pub gen : words_request (codes "gen" ∷ codes "1" ∷ []) ≡ Some (Gen 1 0)
  pub most : words_request (codes "gen" ∷ codes "1000" ∷ []) ≡ Some (Gen 1000 0)
  pub gen_by : words_request (codes "gen" ∷ codes "3" ∷ codes "--workers" ∷ codes "2" ∷ [])
      ≡ Some (Gen 3 2)
  pub gen_behind : words_request (codes "gen" ∷ codes "--workers" ∷ codes "2" ∷ codes "3" ∷ [])
      ≡ Some (Gen 3 2)
  pub gen_joined : words_request (codes "gen" ∷ codes "--workers=2" ∷ codes "3" ∷ []) ≡ Some
      (Gen 3 2)

-- some that aren't: none, another name, too many workers, no number, an option twice, a word too
-- many, an option too many, a call for help; a number that isn't printed so
pub record AreNotTaken : Type 0 where
  pub none : words_request [] ≡ None
  pub other : words_request (codes "server" ∷ []) ≡ None
  pub many : words_request (codes "serve" ∷ codes "--workers" ∷ codes "17" ∷ []) ≡ None
  pub missing : words_request (codes "serve" ∷ codes "--workers" ∷ []) ≡ None
  pub letters : words_request (codes "serve" ∷ codes "--workers" ∷ codes "two" ∷ []) ≡ None
  pub twice : words_request (codes "serve" ∷ codes "--workers" ∷ codes "1" ∷ codes "--workers"
      ∷ codes "1" ∷ []) ≡ None
  pub more : words_request (codes "check" ∷ codes "A.thy" ∷ []) ≡ None
  pub beside : words_request (codes "mirror" ∷ codes "--workers" ∷ codes "1" ∷ []) ≡ None
  pub help : words_request (codes "--help" ∷ []) ≡ None
  pub zeros : words_request (codes "serve" ∷ codes "--workers" ∷ codes "00" ∷ []) ≡ None
  pub plus : words_request (codes "serve" ∷ codes "--workers" ∷ codes "+0" ∷ []) ≡ None
  pub numberless : words_request (codes "gen" ∷ []) ≡ None
  pub few_nodes : words_request (codes "gen" ∷ codes "0" ∷ []) ≡ None
  pub many_nodes : words_request (codes "gen" ∷ codes "1001" ∷ []) ≡ None
  pub many_makers : words_request (codes "gen" ∷ codes "3" ∷ codes "--workers" ∷ codes "17" ∷ [])
      ≡ None
  pub plus_nodes : words_request (codes "gen" ∷ codes "+3" ∷ []) ≡ None
  pub zeros_nodes : words_request (codes "gen" ∷ codes "03" ∷ []) ≡ None
  pub two_numbers : words_request (codes "gen" ∷ codes "1" ∷ codes "2" ∷ []) ≡ None
