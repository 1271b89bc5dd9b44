-- Six pieces behind a text.
use Rattle.std.proofs.Common.{◌≡◌, ℕ, List, ◌++◌, ◌∙◌, append_assoc}

pub joined_six : (old a b c d e f : List ℕ) → (((((old ++ a) ++ b) ++ c) ++ d) ++ e) ++ f ≡ old ++ (a ++ (b ++ (c ++ (d ++ (e ++ f)))))
joined_six old a b c d e f =
    append_assoc ((((old ++ a) ++ b) ++ c) ++ d) e f
    ∙ (append_assoc (((old ++ a) ++ b) ++ c) d (e ++ f)
    ∙ (append_assoc ((old ++ a) ++ b) c (d ++ (e ++ f))
    ∙ (append_assoc (old ++ a) b (c ++ (d ++ (e ++ f)))
    ∙ append_assoc old a (b ++ (c ++ (d ++ (e ++ f)))))))
