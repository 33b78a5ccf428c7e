-- What an `if !f(x)` tells on either way, where f's contract says that its result is a definition's. Assumes nothing.
use mathlib.Core.Path.{◌≡◌, sym, ◌∙◌}
use mathlib.Core.Bool.{Bool, true, false, not}
use borrow.Author.Tests.{not-true, not-false}

module _ {result definition : Bool} (e : result ≡ definition) where
  pub failed : not result ≡ true → definition ≡ false
  failed taken = sym e ∙ not-true result taken

  pub held : not result ≡ false → definition ≡ true
  held left = sym e ∙ not-false result left
