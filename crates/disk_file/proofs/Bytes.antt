-- What is known of the bytes of a writer over several calls.
use Rattle.std.proofs.Common.{ℕ, List, Option, None, Some, take, ◌∙◌, refl, arith}
use Rattle.std.proofs.lemmas.Grind.{common_steps}
use Rattle.std.specs.Io.KnownBytes.{Keeps, Appends, Consumes}

pub keeps_same : (a : Option (List ℕ)) → Keeps a a
keeps_same None = tt
keeps_same (Some xs) = refl

pub keeps_then : (a b c : Option (List ℕ)) → Keeps a b → Keeps b c → Keeps a c
keeps_then None b c k l = tt
keeps_then (Some xs) None c k l = absurd k
keeps_then (Some xs) (Some ys) None k l = absurd l
keeps_then (Some xs) (Some ys) (Some zs) k l = l ∙ k

pub keeps_appends : (a b c : Option (List ℕ)) (bs : List ℕ) → Keeps a b → Appends b c bs → Appends a c bs
keeps_appends None b c bs k l = tt
keeps_appends (Some xs) None c bs k l = absurd k
keeps_appends (Some xs) (Some ys) None bs k l = absurd l
keeps_appends (Some xs) (Some ys) (Some zs) bs k l = cc

pub keeps_consumes : (a b c : Option (List ℕ)) (bs : List ℕ) → Keeps a b → Consumes b c bs → Consumes a c bs
keeps_consumes None b c bs k l = tt
keeps_consumes (Some xs) None c bs k l = absurd k
keeps_consumes (Some xs) (Some ys) None bs k l = absurd l
keeps_consumes (Some xs) (Some ys) (Some zs) bs k l = cc

pub appends_none : (a b : Option (List ℕ)) (bs : List ℕ) → Appends a b (take 0 bs) → Keeps a b
appends_none None b bs l = tt
appends_none (Some xs) None bs l = absurd l
appends_none (Some xs) (Some ys) bs l = grind (arith, common_steps)

pub ruleset bytes_laws = (keeps_same, keeps_then, keeps_appends, keeps_consumes, appends_none)
