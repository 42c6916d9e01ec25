-- What a form in memory stands for. Assumes nothing.
use Rattle.scheme.specs.Keys.{Gram, gram}
use Rattle.key.specs.Stored.{front}
use Rattle.key.specs.declared.form.Form.{Form}

abbrev pub gram_of : Form → Gram
gram_of form = gram (front form.class form.q00) (front form.class form.q01) (front form.class form.q11)
